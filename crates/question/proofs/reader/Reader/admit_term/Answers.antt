use Rattle.std.proofs.Common.{length, refl, ap, ◌∙◌, arith}
use Rattle.question.specs.Arena.{name_of}
use Rattle.question.proofs.Admitting.{term_long, term_kept}
use Rattle.question.proofs.reader.Reader.admit_term.Goals as goal

pub returns-then-of-gt128 : goal.returns-then-of-gt128
returns-then-of-gt128 c = term_long c.args.kind _ (omega (arith, ap length (c.of.ensures ∙ ap (λ t. name_of t c.args.span) c.as_slice.ensures)))

pub returns : goal.returns
returns c =
    term_kept (record { next = refl; full = refl; text = refl; paths = refl; patterns = refl; nodes = refl }) refl refl
    _ c.len-number.result (c.push.ensures.taken (omega (arith, c.requires, c.args.self.now.within, c.args.self.now.last, c.args.self.now.built.text.few))) c.len-number.ensures (omega (arith, ap length (c.of.ensures ∙ ap (λ t. name_of t c.args.span) c.as_slice.ensures), c.if-of-gt128.false))
