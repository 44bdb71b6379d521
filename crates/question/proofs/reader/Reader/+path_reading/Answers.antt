use Rattle.std.proofs.Common.{arith}
use Rattle.std.proofs.lemmas.Result.{err_from_is_err_and}
use Rattle.question.specs.Views.{view}
use Rattle.grammar.specs.Grammar.{means}
use Rattle.question.proofs.Fitting.{path_there, link_fits, inverse_fits, alternative_fits, sequence_fits, past, past_free}
use Rattle.question.proofs.Taking.{points, elsewhere}
use Rattle.question.proofs.Holding.{path_stays}
use Rattle.question.proofs.Placing.{went_path, alternative_placed, sequence_placed}
use Rattle.question.proofs.PathParts.{took_onward, read_onward, forward_first, forward_out, backward_sign, backward_first, backward_then, backward_read, link_fails, link_read, other_sign, other_out, brackets_sign, brackets_inner, brackets_close, brackets_read}
use Rattle.question.proofs.Holding.{onward_then}
use Rattle.question.proofs.Chains.{alternating, stepping, first_fails, begun, ended, sign_fails, part_fails, another}
use Rattle.question.proofs.reader.Reader.+path_reading.Goals as goal

-- ---- base

pub base-returns-in_err-expect-in-Bang : goal.base-returns-in_err-expect-in-Bang
base-returns-in_err-expect-in-Bang t c =
    let p = err_from_is_err_and c.from_residual.result c.from_residual.ensures.1 in
    rw (p.1, p.2) (record { is = other_sign (points c.args.self.now c.in-Bang.is) c.in_err-expect-in-Bang.ensures.is })

pub base-returns-in_ok-expect-in-Bang : goal.base-returns-in_ok-expect-in-Bang
base-returns-in_ok-expect-in-Bang t c = other_out (points c.args.self.now c.in-Bang.is) c.in_ok-expect-in-Bang.ensures.is c.negation.result c.negation.ensures

pub base-returns-in_err-expect-in-OpenParen : goal.base-returns-in_err-expect-in-OpenParen
base-returns-in_err-expect-in-OpenParen t c =
    let p = err_from_is_err_and c.from_residual-in_err-expect-in-OpenParen.result c.from_residual-in_err-expect-in-OpenParen.ensures.1 in
    rw (p.1, p.2) (record { is = brackets_sign (points c.args.self.now c.in-OpenParen.is) c.in_err-expect-in-OpenParen.ensures.is })

pub base-returns-in_err-inner-in-OpenParen : goal.base-returns-in_err-inner-in-OpenParen
base-returns-in_err-inner-in-OpenParen t c =
    let p = err_from_is_err_and c.from_residual-in_err-inner-in-OpenParen.result c.from_residual-in_err-inner-in-OpenParen.ensures.1 in
    rw (p.1, p.2) (record { is = brackets_inner (points c.args.self.now c.in-OpenParen.is) c.in_ok-expect-in-OpenParen.ensures.is c.in_err-inner-in-OpenParen.ensures.is })

pub base-returns-in_err-expect-in-OpenParen-2 : goal.base-returns-in_err-expect-in-OpenParen-2
base-returns-in_err-expect-in-OpenParen-2 t c =
    let p = err_from_is_err_and c.from_residual-in_err-expect-in-OpenParen-2.result c.from_residual-in_err-expect-in-OpenParen-2.ensures.1 in
    rw (p.1, p.2) (record { is = brackets_close (points c.args.self.now c.in-OpenParen.is) c.in_ok-expect-in-OpenParen.ensures.is c.in_ok-inner-in-OpenParen.ensures.is c.in_err-expect-in-OpenParen-2.ensures.is })

pub base-returns-in_ok-expect-in-OpenParen-2 : goal.base-returns-in_ok-expect-in-OpenParen-2
base-returns-in_ok-expect-in-OpenParen-2 t c = record { is = brackets_read (points c.args.self.now c.in-OpenParen.is) c.in_ok-expect-in-OpenParen.ensures.is c.in_ok-inner-in-OpenParen.ensures.is c.in_ok-expect-in-OpenParen-2.ensures.is }

pub base-returns-in_err-term-in_default : goal.base-returns-in_err-term-in_default
base-returns-in_err-term-in_default t c =
    let p = err_from_is_err_and c.from_residual-in_err-term-in_default.result c.from_residual-in_err-term-in_default.ensures.1 in
    rw (p.1, p.2) (record { is = link_fails (elsewhere c.args.self.now c.in_default.not-Bang) (elsewhere c.args.self.now c.in_default.not-OpenParen) c.in_err-term-in_default.ensures.is })

pub base-returns-in_ok-term-in_default : goal.base-returns-in_ok-term-in_default
base-returns-in_ok-term-in_default t c = record { is = link_read (elsewhere c.args.self.now c.in_default.not-Bang) (elsewhere c.args.self.now c.in_default.not-OpenParen) c.in_ok-term-in_default.ensures.is c.add_path.ensures }

-- ---- step

pub step-returns-in_err-expect-in-Caret : goal.step-returns-in_err-expect-in-Caret
step-returns-in_err-expect-in-Caret t c =
    let p = err_from_is_err_and c.from_residual.result c.from_residual.ensures.1 in
    rw (p.1, p.2) (record { is = backward_sign (points c.args.self.now c.in-Caret.is) c.in_err-expect-in-Caret.ensures.is })

pub step-returns-in_err-base-in-Caret : goal.step-returns-in_err-base-in-Caret
step-returns-in_err-base-in-Caret t c =
    let p = err_from_is_err_and c.from_residual-in_err-base-in-Caret.result c.from_residual-in_err-base-in-Caret.ensures.1 in
    rw (p.1, p.2) (record { is = backward_first (points c.args.self.now c.in-Caret.is) c.in_ok-expect-in-Caret.ensures.is c.in_err-base-in-Caret.ensures.is })

pub step-returns-in_err-inner-in-Caret : goal.step-returns-in_err-inner-in-Caret
step-returns-in_err-inner-in-Caret t c =
    let p = err_from_is_err_and c.from_residual-in_err-inner-in-Caret.result c.from_residual-in_err-inner-in-Caret.ensures.1 in
    rw (p.1, p.2) (record { is = backward_then (points c.args.self.now c.in-Caret.is) c.in_ok-expect-in-Caret.ensures.is c.in_ok-base-in-Caret.ensures.is c.in_err-inner-in-Caret.ensures.is })

pub step-returns-in_ok-inner-in-Caret : goal.step-returns-in_ok-inner-in-Caret
step-returns-in_ok-inner-in-Caret t c = record { is = backward_read (points c.args.self.now c.in-Caret.is) c.in_ok-expect-in-Caret.ensures.is c.in_ok-base-in-Caret.ensures.is c.in_ok-inner-in-Caret.ensures.is c.add_path.ensures }

pub step-returns-in_err-base-in_default : goal.step-returns-in_err-base-in_default
step-returns-in_err-base-in_default t c =
    let p = err_from_is_err_and c.from_residual-in_err-base-in_default.result c.from_residual-in_err-base-in_default.ensures.1 in
    rw (p.1, p.2) (record { is = forward_first (elsewhere c.args.self.now c.in_default.not-Caret) c.in_err-base-in_default.ensures.is })

pub step-returns-in_ok-base-in_default : goal.step-returns-in_ok-base-in_default
step-returns-in_ok-base-in_default t c = forward_out (elsewhere c.args.self.now c.in_default.not-Caret) c.in_ok-base-in_default.ensures.is c.suffix-in_default.result c.suffix-in_default.ensures

-- ---- path

pub path-returns-in_err-left : goal.path-returns-in_err-left
path-returns-in_err-left t c =
    let p = err_from_is_err_and c.from_residual.result c.from_residual.ensures.1 in
    rw (p.1, p.2) (record { is = first_fails alternating c.in_err-left.ensures.is })

pub path-returns-in_err-expect : goal.path-returns-in_err-expect
path-returns-in_err-expect t c =
    let p = err_from_is_err_and c.from_residual-in_err-expect.result c.from_residual-in_err-expect.ensures.1 in
    rw (p.1, p.2) (record { is = sign_fails alternating (c.loop-self.invariant.1 (view c.args.self.now) (begun alternating c.in_ok-left.ensures.is)) (points c.loop-self.self c.in-Bar.is) c.in_err-expect.ensures.is })

pub path-returns-in_err-right : goal.path-returns-in_err-right
path-returns-in_err-right t c =
    let p = err_from_is_err_and c.from_residual-in_err-right.result c.from_residual-in_err-right.ensures.1 in
    rw (p.1, p.2) (record { is = part_fails alternating (c.loop-self.invariant.1 (view c.args.self.now) (begun alternating c.in_ok-left.ensures.is)) (points c.loop-self.self c.in-Bar.is) c.in_ok-expect.ensures.is c.in_err-right.ensures.is })

pub path-loop-self-preserved : goal.path-loop-self-preserved
path-loop-self-preserved t c =
    let sign = c.in_ok-expect.ensures.is in
    let right = c.in_ok-right.ensures.is in
    let node = c.add_path-left.ensures in (
      omega (arith, c.loop-self.invariant.0, sign.falls, right.went.kept.forward, node.placed.start),
      λ p s. another alternating (c.loop-self.invariant.1 p s) (points c.loop-self.self c.in-Bar.is) sign right node.placed (went_path node)
          (λ f u v l r. let g = node.placed.free f in alternative_placed node (path_stays (onward_then (took_onward sign (right.went.kept.free g)) (read_onward right.went g)) l) r f),
    )

pub path-returns : goal.path-returns
path-returns t c = record { is = ended alternating (c.loop-self.invariant.1 (view c.args.self.now) (begun alternating c.in_ok-left.ensures.is)) (elsewhere c.loop-self.self c.in_default.not-Bar) }

-- ---- sequence

pub sequence-returns-in_err-left : goal.sequence-returns-in_err-left
sequence-returns-in_err-left t c =
    let p = err_from_is_err_and c.from_residual.result c.from_residual.ensures.1 in
    rw (p.1, p.2) (record { is = first_fails stepping c.in_err-left.ensures.is })

pub sequence-returns-in_err-expect : goal.sequence-returns-in_err-expect
sequence-returns-in_err-expect t c =
    let p = err_from_is_err_and c.from_residual-in_err-expect.result c.from_residual-in_err-expect.ensures.1 in
    rw (p.1, p.2) (record { is = sign_fails stepping (c.loop-self.invariant.1 (view c.args.self.now) (begun stepping c.in_ok-left.ensures.is)) (points c.loop-self.self c.in-Slash.is) c.in_err-expect.ensures.is })

pub sequence-returns-in_err-right : goal.sequence-returns-in_err-right
sequence-returns-in_err-right t c =
    let p = err_from_is_err_and c.from_residual-in_err-right.result c.from_residual-in_err-right.ensures.1 in
    rw (p.1, p.2) (record { is = part_fails stepping (c.loop-self.invariant.1 (view c.args.self.now) (begun stepping c.in_ok-left.ensures.is)) (points c.loop-self.self c.in-Slash.is) c.in_ok-expect.ensures.is c.in_err-right.ensures.is })

pub sequence-loop-self-preserved : goal.sequence-loop-self-preserved
sequence-loop-self-preserved t c =
    let sign = c.in_ok-expect.ensures.is in
    let right = c.in_ok-right.ensures.is in
    let node = c.add_path-left.ensures in (
      omega (arith, c.loop-self.invariant.0, sign.falls, right.went.kept.forward, node.placed.start),
      λ p s. another stepping (c.loop-self.invariant.1 p s) (points c.loop-self.self c.in-Slash.is) sign right node.placed (went_path node)
          (λ f u v l r. let g = node.placed.free f in sequence_placed node (path_stays (onward_then (took_onward sign (right.went.kept.free g)) (read_onward right.went g)) l) r f),
    )

pub sequence-returns : goal.sequence-returns
sequence-returns t c = record { is = ended stepping (c.loop-self.invariant.1 (view c.args.self.now) (begun stepping c.in_ok-left.ensures.is)) (elsewhere c.loop-self.self c.in_default.not-Slash) }

-- ---- what the nodes name is there

pub base-add_path-requires : goal.base-add_path-requires
base-add_path-requires t c = record { some = omega arith; fits = link_fits c.in_ok-term-in_default.ensures.is }

pub step-suffix-requires : goal.step-suffix-requires
step-suffix-requires t c = λ f. path_there c.base.new.self (c.in_ok-base-in-Caret.ensures.is.held f)

pub step-suffix-requires-in_default : goal.step-suffix-requires-in_default
step-suffix-requires-in_default t c = λ f. path_there c.base-in_default.new.self (c.in_ok-base-in_default.ensures.is.held f)

pub step-add_path-requires : goal.step-add_path-requires
step-add_path-requires t c =
    let b = c.in_ok-base-in-Caret.ensures.is in
    let s = c.in_ok-inner-in-Caret.ensures.is in
    record { some = omega arith; fits = inverse_fits (λ f. s.held f (means b.tree) (b.held (s.went.kept.free f))) }

pub path-add_path-left-requires : goal.path-add_path-left-requires
path-add_path-left-requires t c =
    let sofar = (c.loop-self.invariant.1 (view c.args.self.now) (begun alternating c.in_ok-left.ensures.is)) in
    let sign = c.in_ok-expect.ensures.is in
    let right = c.in_ok-right.ensures.is in
    record { some = omega arith; fits = alternative_fits (λ f. path_stays (past sign right.went f) (sofar.held (past_free sign right.went f))) right.held }

pub sequence-add_path-left-requires : goal.sequence-add_path-left-requires
sequence-add_path-left-requires t c =
    let sofar = (c.loop-self.invariant.1 (view c.args.self.now) (begun stepping c.in_ok-left.ensures.is)) in
    let sign = c.in_ok-expect.ensures.is in
    let right = c.in_ok-right.ensures.is in
    record { some = omega arith; fits = sequence_fits (λ f. path_stays (past sign right.went f) (sofar.held (past_free sign right.went f))) right.held }
