use Rattle.std.proofs.Common.{arith}
use Rattle.cf_row.proofs.Abandoned.{abandons, rule_small}
use Rattle.cf_row.proofs.replica.Replica.abandon.Goals as goal

pub encode-requires : goal.encode-requires
encode-requires c =
    let code = c.ranges.code.fits in (
      rule_small c.args.self.now.seen c.args.self.now.session c.number-who.result c.number-who.ensures,
      c.in_ok-stage.ensures.few,
      omega (arith, code),
    )

pub returns-clause-fails : goal.returns-clause-fails
returns-clause-fails c =
    abandons c.args.self.now c.args.session c.args.from c.args.code c.number-who.result c.in_ok-stage.stage c.encode.result c.number-who.ensures c.in_ok-stage.ensures.held c.in_ok-stage.ensures.above
    c.in_ok-stage.ensures.first c.in_ok-stage.ensures.there c.encode.ensures.word c.encode.ensures.back
