use Rattle.std.proofs.Common.{refl, arith, ltb-false, ltb-true}
use Rattle.lines.proofs.Fronted.{behind_sign}
use Rattle.lines.proofs.reader.Reader.sign.Goals as goal

pub returns-in-len1-up : goal.returns-in-len1-up
returns-in-len1-up c = (behind_sign c.args.b c.args.self.rest.now (omega (arith, ltb-true, ltb-false)) c.if-first-b.true, refl)
