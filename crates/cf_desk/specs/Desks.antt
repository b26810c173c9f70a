-- What every pass, every notice and every desk keeps.
use Rattle.std.specs.Prelude.{◌≡◌, ℕ, ◌<◌, ◌≤◌, List, [], length, vec_capacity}
use Rattle.cf_desk.specs.declared.pass.Pass.TheInside.{Inside as InPass}
use Rattle.cf_desk.specs.declared.notice.Notice.TheInside.{Inside as InNotice}
use Rattle.cf_desk.specs.declared.desk.Desk.TheInside.{Inside as InDesk}
use Rattle.cf_desk.specs.declared.calls.Rec.{Rec}
use Rattle.cf_desk.specs.declared.row.CallerView.{CallerView}
use Rattle.cf_model.specs.States.{State}
use Rattle.cf_desk.specs.Log.{AreLogged}
use Rattle.cf_desk.specs.Records.{Fits}
use Rattle.cf_desk.specs.Views.{IsOne, known_at, state_of}

-- the fields of a pass agree with what it knows
pub record Agrees (k : CallerView) (by most n : ℕ) (s : State) (records : List Rec) : Type 0 where
  pub caller : by ≡ k.caller
  pub one_of : k.caller < k.setting.callers
  pub few : k.setting.callers ≤ 64
  pub functions : most ≡ k.setting.functions
  pub count : n ≡ length k.seen
  pub state : s ≡ state_of k
  pub events : AreLogged k.setting k.seen
  pub fits : Fits k.setting.plan k.caller k.seen records

pub record PassKept (p : InPass) : Type 0 where
  pub one : IsOne p.seat.me
  pub agrees : Agrees (known_at p.seat.me) p.caller p.functions p.count p.replica.state p.records.items
  pub room : p.calls ≤ vec_capacity p.records
  pub within : length p.records.items ≤ p.calls
  pub short : p.count ≤ p.seat.table_id.words

pub record NoticeKept (n : InNotice) : Type 0 where
  pub one : IsOne n.seat.me
  pub count : n.count ≡ length (known_at n.seat.me).seen
  pub short : n.count ≤ n.seat.table_id.words

pub record DeskKept (d : InDesk) : Type 0 where
  pub key : d.table.shared.key ≡ d.terms
  pub words : d.terms.words ≡ d.table.shared.table_id.words
  pub some : 0 < d.terms.words
  pub few : d.terms.words < 65536
  pub callers : 0 < d.terms.setting.callers
  pub history : d.history.items ≡ []
  pub history_room : d.terms.words ≤ vec_capacity d.history
  pub kept : d.kept.items ≡ []
  pub kept_room : d.terms.setting.callers ≤ vec_capacity d.kept
  pub slots : d.table.shared.table_id.slots ≡ 0
