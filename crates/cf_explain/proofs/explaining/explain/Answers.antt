use Rattle.std.proofs.Common.{rules, All, IfOk, IsUtf8, ◌≡◌, None, Option, Result, subst, sym}
use Rattle.std.proofs.lemmas.List.Elements.{All-nil}
use Rattle.serde_json.specs.Data.{Data}
use Rattle.serde_json.specs.Read.{read}
use Rattle.serde_json.specs.View.{view}
use Rattle.cf_script_reading.specs.declared.fault.ReadingFault.{ReadingFault}
use Rattle.cf_script_reading.specs.Reading.{json_of, script_said}
use Rattle.cf_script_reading.specs.Scripts.{Script}
use Rattle.cf_script_reading.proofs.Texts.{json_found, reading_not_json, reading_said, reading_too_long}
use Rattle.cf_explain.specs.Remarks.{AreRemarks, IsOfWriting}
use Rattle.cf_explain.specs.Verdicts.{ExplainTells}
use Rattle.cf_explain.proofs.explaining.explain.Goals as goal

pub returns-then-bytes-gt-MAX_BYTES : goal.returns-then-bytes-gt-MAX_BYTES
returns-then-bytes-gt-MAX_BYTES c =
    let long = sym (reading_too_long c.args.bytes.now c.if-bytes-gt-MAX_BYTES.true) in
    let none : All IsOfWriting c.unread.result.remarks.items = subst (All IsOfWriting) (sym c.unread.ensures.remarks) (All-nil IsOfWriting) in
    record {
      verdict = subst (ExplainTells c.unread.result.refusal) long c.unread.ensures.refused;
      remarks = subst (λ said. AreRemarks said (json_of c.args.bytes.now) c.unread.result.remarks.items) long none;
    }

pub returns-in-Ok : goal.returns-in-Ok
returns-in-Ok c =
    let bytes = c.args.bytes.now in
    let json = c.in-Ok.ensures.ok in
    let said = sym (reading_said bytes (view c.in-Ok.json) c.if-bytes-gt-MAX_BYTES.false json.0 json.1) in
    record {
      verdict = subst (λ (said : Result Script ReadingFault). IfOk c.explain_json.result (λ e. ExplainTells e.refusal said)) said c.explain_json.ensures.verdict;
      remarks = subst (λ (said : Result Script ReadingFault). IfOk c.explain_json.result (λ e. AreRemarks said (json_of bytes) e.remarks.items)) said
          (subst (λ (d : Option Data). IfOk c.explain_json.result (λ e. AreRemarks (script_said (view c.in-Ok.json)) d e.remarks.items))
          (sym (json_found bytes (view c.in-Ok.json) json.0 json.1)) c.explain_json.ensures.remarks);
    }

pub returns-in-Err-2 : goal.returns-in-Err-2
returns-in-Err-2 c =
    let missing : IsUtf8 c.args.bytes.now → read c.args.bytes.now ≡ None = search rules in
    let wrong = sym (reading_not_json c.args.bytes.now c.if-bytes-gt-MAX_BYTES.false missing) in
    let none : All IsOfWriting c.unread-in-Err-2.result.remarks.items = subst (All IsOfWriting) (sym c.unread-in-Err-2.ensures.remarks) (All-nil IsOfWriting) in
    record {
      verdict = subst (ExplainTells c.unread-in-Err-2.result.refusal) wrong c.unread-in-Err-2.ensures.refused;
      remarks = subst (λ said. AreRemarks said (json_of c.args.bytes.now) c.unread-in-Err-2.result.remarks.items) wrong none;
    }
