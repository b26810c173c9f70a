-- Linked lists of stages in one block of cells, where each cell names the one behind it.
use Rattle.std.specs.Prelude.{◌≡◌, ℕ, ◌+◌, ◌<◌, List, [], ◌∷◌, length, slice_index_or, slice_set}
use Rattle.std.proofs.Common.{zero, suc}
use Rattle.cf_plan.specs.declared.attached_lists.Cell.{Cell}
use Rattle.cf_plan.specs.declared.attached_lists.Head.{Head}

-- the cell at a place, and the head of a stage's list
abbrev pub cell_at : List Cell → ℕ → Cell
cell_at cells c = slice_index_or cells c (record { stage = 0; next = 0 })

abbrev pub head_at : List Head → ℕ → Head
head_at heads i = slice_index_or heads i (record { first = 0; count = 0 })

-- the stages in so many cells, from one on
abbrev pub walk : ℕ → List Cell → ℕ → List ℕ
walk zero cells c = []
walk (suc count) cells c = (cell_at cells c).stage ∷ walk count cells (cell_at cells c).next

abbrev pub list_of : List Cell → Head → List ℕ
list_of cells head = walk head.count cells head.first

-- so many cells, from one on, are there
abbrev pub IsAttachedList : ℕ → List Cell → ℕ → Type 0
IsAttachedList zero cells c = Unit {0}
IsAttachedList (suc count) cells c = (c < length cells) × IsAttachedList count cells (cell_at cells c).next

-- the list of a stage is there
abbrev pub HasListAt : List Head → List Cell → ℕ → Type 0
HasListAt heads cells i = IsAttachedList (head_at heads i).count cells (head_at heads i).first

-- the head of an empty list
abbrev pub empty_head : Head
empty_head = record { first = 0; count = 0 }

-- A stage is put in front of the list of a target. This is its cell, which names the cell that was the first.
abbrev pub new_cell : List Head → ℕ → ℕ → Cell
new_cell heads target stage = record { stage = stage; next = (head_at heads target).first }

-- These are the heads then, where the new cell has this place.
abbrev pub heads_with : List Head → ℕ → ℕ → List Head
heads_with heads target place = slice_set heads target (record { first = place; count = (head_at heads target).count + 1 })

-- each list is there, and has the stages of its part
pub record AreAttachedLists (heads : List Head) (cells : List Cell) (part : ℕ → List ℕ) : Type 0 where
  pub there : (i : ℕ) → i < length heads → IsAttachedList (head_at heads i).count cells (head_at heads i).first
  pub parts : (i : ℕ) → i < length heads → list_of cells (head_at heads i) ≡ part i
