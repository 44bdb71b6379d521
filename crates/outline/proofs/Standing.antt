-- What stands at a number of a question.
use Rattle.std.proofs.Common.{◌≡◌, ℕ, ◌-◌, ◌^◌, ◌<◌, min, Bool, true, false, ltb, List, [], length, get_or, take, Some, sym, refl, ap, ◌∙◌, arith, ltb-false, ltb-true}
use Rattle.std.proofs.lemmas.List.{length-map, take_all, get_or_past}
use Rattle.room.specs.Items.{items}
use Rattle.grammar.specs.Syntax.{negated, empty}
use Rattle.grammar.specs.Grammar.{iri_term}
use Rattle.question.specs.declared.question.Question.{Question}
use Rattle.question.specs.declared.node.PathNode.{PathNode}
use Rattle.question.specs.declared.node.PatternNode.{PatternNode}
use Rattle.question.specs.Arena.{term_of, pattern_at, path_of, pattern_of, paths_of, patterns_of}
use Rattle.question.specs.Answers.{Told}
use Rattle.question.proofs.Standing.{here}
use Rattle.question.specs.Asking.{asked}
use Rattle.outline.specs.Outlined.{path_text, pattern_text}
use Rattle.question.specs.Parts.{env_of, term_at}
use Rattle.outline.specs.Parts.{path_before, pattern_before}

-- ---- the parts of a question

-- a list that fits has nothing at the largest number, or past it
capped : {X : Type 0} (xs : List X) (d : X) (n m : ℕ) → length xs < 2 ^ 63 → m ≡ min n (2 ^ 64 - 1) → (b : Bool) → ltb n (2 ^ 64) ≡ b → get_or xs m d ≡ get_or xs n d
capped xs d n m few e true h = let same : m ≡ n = omega (arith, ltb-true n (2 ^ 64) h) in ap (λ k. get_or xs k d) same
capped xs d n m few e false h = get_or_past xs m d (omega (arith, ltb-false n (2 ^ 64) h)) ∙ sym (get_or_past xs n d (omega (arith, ltb-false n (2 ^ 64) h)))

pub term_capped : (q : Question) (n m : ℕ) → m ≡ min n (2 ^ 64 - 1) → term_at q m ≡ term_at q n
term_capped q n m e =
    let few : length (asked q).terms < 2 ^ 63 = omega (arith, length-map (items q.terms) (term_of (items q.text)), q.terms.few) in
    capped (asked q).terms (iri_term []) n m few e (ltb n (2 ^ 64)) refl

pub path_here : (q : Question) (limit i : ℕ) (node as-node : PathNode) → i < limit → Told (λ (x y : PathNode). x ≡ y) (items q.paths) i (Some node) → node ≡ as-node → path_text (path_of (env_of q).term (paths_of (env_of q).term (take i (items q.paths))) as-node) ≡ path_text (path_before q limit i)
path_here q limit i node m lt t e =
    let f = (env_of q).term in
    let ns = items q.paths in
    ap path_text (ap (path_of f (paths_of f (take i ns))) (sym e) ∙ sym (here (path_of f) ns limit i node (negated []) lt t))

pub pattern_here : (q : Question) (limit i : ℕ) (node as-node : PatternNode) → i < limit → Told (λ (x y : PatternNode). x ≡ y) (items q.patterns) i (Some node) → node ≡ as-node → pattern_text (pattern_of (env_of q) (patterns_of (env_of q) (take i (items q.patterns))) as-node) ≡ pattern_text (pattern_before q limit i)
pattern_here q limit i node m lt t e =
    let f = env_of q in
    let ns = items q.patterns in
    ap pattern_text (ap (pattern_of f (patterns_of f (take i ns))) (sym e) ∙ sym (here (pattern_of f) ns limit i node empty lt t))

-- there are no more patterns than nodes
pub pattern_whole : (q : Question) (limit i : ℕ) → limit ≡ q.nodes → i ≡ q.root → pattern_text (pattern_before q limit i) ≡ pattern_text (asked q).pattern
pattern_whole q limit i e f =
    let ns = items q.patterns in
    ap (λ l. pattern_text (pattern_at (patterns_of (env_of q) l) i)) (take_all limit ns (omega (arith, q.counted)))
    ∙ ap (λ k. pattern_text (pattern_at (patterns_of (env_of q) ns) k)) f
