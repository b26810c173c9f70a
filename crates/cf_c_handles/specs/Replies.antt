-- Replies as C has them.
use Rattle.std.specs.Prelude.{ℕ}
use Rattle.cf_forms.specs.declared.forms.Args.{Args}
use Rattle.cf_forms.specs.declared.forms.Args.TheVariants.{None as NoArgs}
use Rattle.cf_model.specs.declared.events.Reply.{Reply}
use Rattle.cf_model.specs.declared.events.Reply.TheVariants.{Flag, Claim, Finish, Tick, Attach}
use Rattle.cf_model.specs.declared.replies.Claimed.TheVariants.{Granted, Settled, Taken, NotReady}
use Rattle.cf_model.specs.declared.replies.Finished.{Finished}
use Rattle.cf_model.specs.declared.replies.Finished.TheVariants.{Won, Late, NotYours}
use Rattle.cf_model.specs.declared.replies.Ticked.TheVariants.{Fired, Past}
use Rattle.cf_model.specs.declared.replies.Attached.TheVariants.{At, StagesFull}
use Rattle.cf_c_handles.specs.Values.{as_args, bit}
use Rattle.cf_c_handles.specs.declared.values.CfReply.{CfReply}

-- how a finish went
abbrev pub finish_number : Finished → ℕ
finish_number Won = 0
finish_number Late = 1
finish_number NotYours = 2

abbrev pub reply_with : ℕ → ℕ → Args → CfReply
reply_with answer number args = record { answer = answer; number = number; args = as_args args }

-- what a changing call is answered
abbrev pub as_reply : Reply → CfReply
as_reply (Flag flag) = reply_with (bit flag) 0 NoArgs
as_reply (Claim (Granted args)) = reply_with 0 0 args
as_reply (Claim Settled) = reply_with 1 0 NoArgs
as_reply (Claim Taken) = reply_with 2 0 NoArgs
as_reply (Claim NotReady) = reply_with 3 0 NoArgs
as_reply (Finish finished) = reply_with (finish_number finished) 0 NoArgs
as_reply (Tick (Fired count)) = reply_with 0 count NoArgs
as_reply (Tick Past) = reply_with 1 0 NoArgs
as_reply (Attach (At stage)) = reply_with 0 stage NoArgs
as_reply (Attach StagesFull) = reply_with 1 0 NoArgs
