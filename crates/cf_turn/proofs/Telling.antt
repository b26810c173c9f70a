-- The first user is told who is to be told something.
use Rattle.std.proofs.Common.{◌≡◌, ℕ, Bool, nat_lt, Option, ap, ◌∙◌, subst}
use Rattle.std.specs.Prelude.{◌&&◌}
use Rattle.std.specs.List.{remove}
use Rattle.cf_part.specs.declared.question.Fault.{Fault}
use Rattle.cf_turn.specs.declared.wish.Told.{Told}
use Rattle.cf_turn.specs.Works.{IsEndTold, IsTold, Users, Work, is_closed_in}
use Rattle.cf_turn.specs.Turns.{TellsEnd, TellsWish}

abbrev pub users_of : Work → Users
users_of w = record { wishes = w.wishes; ends = w.ends; free = w.free }

abbrev pub with_users : Work → Users → Bool → Work
with_users w users acting = record w { wishes = users.wishes; ends = users.ends; free = users.free; is_acting = acting }

pub tells_wish : (old : Work) (now place number : ℕ) (told : Told) (fault : Option Fault) (users : Users) (acting : Bool) → fault ≡ old.part.fault →
    IsTold fault now old.wishes place number told → users ≡ (record (users_of old) { wishes = remove old.wishes place }) → acting ≡ (old.is_acting && nat_lt 0 place) →
    TellsWish old now number told (with_users old users acting)
tells_wish old now place number told fault users acting same is left stays = (
  place,
  subst (λ (f : Option Fault). IsTold f now old.wishes place number told) same is,
  ap (λ (u : Users). with_users old u acting) left ∙ ap (λ (b : Bool). with_users old (record (users_of old) { wishes = remove old.wishes place }) b) stays,
)

pub tells_end : (old : Work) (now place number : ℕ) (told : Told) (fault : Option Fault) (is_closed : Bool) (users : Users) → fault ≡ old.part.fault → is_closed ≡ is_closed_in old →
    IsEndTold fault is_closed now old.ends place number told → users ≡ (record (users_of old) { ends = remove old.ends place }) → TellsEnd old now number told (with_users old users old.is_acting)
tells_end old now place number told fault is_closed users same closed is left = (
  place,
  subst (λ (f : Option Fault). IsEndTold f (is_closed_in old) now old.ends place number told) same
      (subst (λ (b : Bool). IsEndTold fault b now old.ends place number told) closed is),
  ap (λ (u : Users). with_users old u old.is_acting) left,
)
