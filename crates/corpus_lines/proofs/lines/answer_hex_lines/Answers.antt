use denote.Param.Always.{always_mut, mut_by}
use Rattle.corpus_lines.proofs.lines.answer_hex_lines.Goals as goal

-- a line asks what its answer asks, and leaves it so
pub answer_lines-requires : goal.answer_lines-requires
answer_lines-requires g c = mut_by _ (λ s. always_mut g.F.FnMut s.1.now) (λ s a i. i) (λ s a r t i e. e.met.1) _ c.requires
