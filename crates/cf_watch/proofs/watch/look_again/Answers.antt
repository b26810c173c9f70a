use Rattle.std.proofs.Common.{◌≡◌, ℕ, ◌<◌, Option, ◌∙◌, ap, arith, get_or, length, set}
use Rattle.std.proofs.lemmas.List.{get_or_default}
use Rattle.std.proofs.lemmas.List.Edits.{map_over_more}
use Rattle.cf_watch.specs.Calls.{count_in}
use Rattle.cf_watch.specs.Watches.{looked_at, sight_after}
use Rattle.cf_watch.specs.declared.sight.Known.{Known}
use Rattle.cf_watch.specs.declared.sight.Sight.{Sight}
use Rattle.cf_watch.specs.declared.sight.Sight.TheVariants.{Noticed}
use Rattle.cf_watch.proofs.watch.look_again.Goals as goal

pub loop-one-preserved : goal.loop-one-preserved
loop-one-preserved c =
    let beats = c.args.beats.now in
    let ys = c.loop-one.known in
    let i = c.loop-one.one-index in
    let none : Known = record { session = 0; sight = Noticed } in
    let x = get_or ys i none in
    let is : c.sight_after-one.result ≡ sight_after c.args.lease c.args.time (count_in x.session beats) x.sight =
    c.sight_after-one.ensures ∙ ap (λ (o : Option ℕ). sight_after c.args.lease c.args.time o x.sight) c.count_in.ensures in
    let within : i < length ys = omega arith in
    ap (λ (q : Sight). set ys i (record { session = x.session; sight = q })) is ∙
    map_over_more (looked_at c.args.lease c.args.time beats) c.args.known.now ys i x (omega arith) c.loop-one.invariant (get_or_default ys i none x within)
