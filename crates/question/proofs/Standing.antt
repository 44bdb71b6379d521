-- What stands at a number of a question: a node means what it says of the nodes at the numbers that it names.
use Rattle.std.proofs.Common.{◌≡◌, ℕ, ◌+◌, ◌<◌, ◌≤◌, List, [], ◌∷◌, ◌++◌, length, get_or, take, drop, Some, sym, refl, ap, ◌∙◌, ap₂, arith}
use Rattle.std.proofs.lemmas.List.{length-take-le, length-take, take-take, take-append-drop, take_more, take_all, get_or_past, get_or_push, get_or_append_left, length_push}
use Rattle.room.specs.Items.{items}
use Rattle.grammar.specs.Syntax.{negated, inverse, star, sequence, alternative, empty, and, union, opt}
use Rattle.question.specs.declared.question.Question.{Question}
use Rattle.question.specs.declared.node.PathNode.{PathNode}
use Rattle.question.specs.declared.node.PathNode.TheVariants as path
use Rattle.question.specs.declared.node.PatternNode.{PatternNode}
use Rattle.question.specs.declared.node.PatternNode.TheVariants as pattern
use Rattle.question.specs.Arena.{grow, EnvOf, path_at, pattern_at, path_of, pattern_of, paths_of, patterns_of}
use Rattle.question.specs.Answers.{Told}
use Rattle.question.specs.Behind.{path_from, pattern_from}

grow_length : {X N : Type 0} (h : List X → N → X) (xs : List X) (ns : List N) → length (grow h xs ns) ≡ length xs + length ns
grow_length h xs [] = omega arith
grow_length h xs (n ∷ ns) = grow_length h (xs ++ h xs n ∷ []) ns ∙ omega (arith, length_push xs (h xs n))

grow-++ : {X N : Type 0} (h : List X → N → X) (xs : List X) (ns ms : List N) → grow h xs (ns ++ ms) ≡ grow h (grow h xs ns) ms
grow-++ h xs [] ms = refl
grow-++ h xs (n ∷ ns) ms = grow-++ h (xs ++ h xs n ∷ []) ns ms

grow_keeps : {X N : Type 0} (h : List X → N → X) (xs : List X) (ns : List N) (i : ℕ) (d : X) → i < length xs → get_or (grow h xs ns) i d ≡ get_or xs i d
grow_keeps h xs [] i d lt = refl
grow_keeps h xs (n ∷ ns) i d lt = grow_keeps h (xs ++ h xs n ∷ []) ns i d (omega (arith, length_push xs (h xs n))) ∙ get_or_append_left xs (h xs n ∷ []) d i lt

-- a node means what it says of the nodes before it, wherever the limit is
pub here : {X N : Type 0} (h : List X → N → X) (ns : List N) (limit i : ℕ) (n : N) (d : X) → i < limit → Told (λ (x y : N). x ≡ y) ns i (Some n) → get_or (grow h [] (take limit ns)) i d ≡ h (grow h [] (take i ns)) n
here h ns limit i n d lt t =
    let inside = t.2.within in
    let rest = drop (i + 1) (take limit ns) in
    let before = grow h [] (take i ns) in
    let long : length before ≡ i = grow_length h [] (take i ns) ∙ omega (arith, length-take-le i ns (omega arith)) in
    let upto : take (i + 1) ns ≡ take i ns ++ n ∷ [] = take_more ns i n inside ∙ ap (λ x. take i ns ++ x ∷ []) (t.2.is n ∙ sym t.1) in
    let split : take limit ns ≡ (take i ns ++ n ∷ []) ++ rest =
    sym (take-append-drop (i + 1) (take limit ns)) ∙ ap (λ l. l ++ rest) (take-take (i + 1) limit ns (omega arith) ∙ upto) in
    ap (λ l. get_or (grow h [] l) i d) split ∙ ap (λ l. get_or l i d) (grow-++ h [] (take i ns ++ n ∷ []) rest ∙ ap (λ l. grow h l rest) (grow-++ h [] (take i ns) (n ∷ [])))
    ∙ grow_keeps h (before ++ h before n ∷ []) rest i d (omega (arith, length_push before (h before n))) ∙ get_or_push before (h before n) d i long

-- nothing stands past the limit, or past the last node
pub past_limit : {X N : Type 0} (h : List X → N → X) (ns : List N) (limit i : ℕ) (d : X) → limit ≤ i → get_or (grow h [] (take limit ns)) i d ≡ d
past_limit h ns limit i d le = get_or_past (grow h [] (take limit ns)) i d (omega (arith, grow_length h [] (take limit ns), length-take limit ns))

pub past_all : {X N : Type 0} (h : List X → N → X) (ns : List N) (limit i : ℕ) (d : X) → length ns ≤ i → get_or (grow h [] (take limit ns)) i d ≡ d
past_all h ns limit i d le = get_or_past (grow h [] (take limit ns)) i d (omega (arith, grow_length h [] (take limit ns), length-take limit ns))

-- ---- with no limit

nothing_there : {X N : Type 0} (h : List X → N → X) (ns : List N) (i : ℕ) (d : X) → length ns ≤ i → get_or (grow h [] ns) i d ≡ d
nothing_there h ns i d le = get_or_past (grow h [] ns) i d (omega (arith, grow_length h [] ns))

-- later nodes change nothing before them
earlier : {X N : Type 0} (h : List X → N → X) (ns : List N) (i p : ℕ) (d : X) → p < i → i ≤ length ns → get_or (grow h [] (take i ns)) p d ≡ get_or (grow h [] ns) p d
earlier h ns i p d lt le =
    let front = grow h [] (take i ns) in
    sym (grow_keeps h front (drop i ns) p d (omega (arith, grow_length h [] (take i ns), length-take-le i ns le)))
    ∙ ap (λ l. get_or l p d) (sym (grow-++ h [] (take i ns) (drop i ns)) ∙ ap (grow h []) (take-append-drop i ns))

whole : {X N : Type 0} (h : List X → N → X) (ns : List N) (i : ℕ) (n : N) (d : X) → Told (λ (x y : N). x ≡ y) ns i (Some n) → get_or (grow h [] ns) i d ≡ h (grow h [] (take i ns)) n
whole h ns i n d t = ap (λ l. get_or (grow h [] l) i d) (sym (take_all (length ns) ns (omega arith))) ∙ here h ns (length ns) i n d t.2.within t

-- ---- in a question, whatever its terms and variables stand for

path_parts : {T : Type 0} (f : ℕ → T) (ns : List PathNode) (i : ℕ) (n : PathNode) → path_from n ≤ i → i ≤ length ns → path_of f (paths_of f (take i ns)) n ≡ path_of f (paths_of f ns) n
path_parts f ns i (path.Link t) le lt = refl
path_parts f ns i (path.Negated first count) le lt = refl
path_parts f ns i (path.Inverse p) le lt = ap inverse (earlier (path_of f) ns i p (negated []) (omega arith) lt)
path_parts f ns i (path.Star p) le lt = ap star (earlier (path_of f) ns i p (negated []) (omega arith) lt)
path_parts f ns i (path.Sequence p r) le lt =
    ap₂ sequence (earlier (path_of f) ns i p (negated []) (omega arith) lt) (earlier (path_of f) ns i r (negated []) (omega arith) lt)
path_parts f ns i (path.Alternative p r) le lt =
    ap₂ alternative (earlier (path_of f) ns i p (negated []) (omega arith) lt) (earlier (path_of f) ns i r (negated []) (omega arith) lt)

pattern_parts : {T V : Type 0} (e : EnvOf T V) (ns : List PatternNode) (i : ℕ) (n : PatternNode) → pattern_from n ≤ i → i ≤ length ns → pattern_of e (patterns_of e (take i ns)) n ≡ pattern_of e (patterns_of e ns) n
pattern_parts e ns i pattern.Empty le lt = refl
pattern_parts e ns i (pattern.Line l) le lt = refl
pattern_parts e ns i (pattern.And p r) le lt =
    ap₂ and (earlier (pattern_of e) ns i p empty (omega arith) lt) (earlier (pattern_of e) ns i r empty (omega arith) lt)
pattern_parts e ns i (pattern.Union p r) le lt =
    ap₂ union (earlier (pattern_of e) ns i p empty (omega arith) lt) (earlier (pattern_of e) ns i r empty (omega arith) lt)
pattern_parts e ns i (pattern.Opt p r) le lt =
    ap₂ opt (earlier (pattern_of e) ns i p empty (omega arith) lt) (earlier (pattern_of e) ns i r empty (omega arith) lt)

-- the children of a node stand before it
pub path_behind : (q : Question) (i : ℕ) (n : PathNode) → Told (λ (x y : PathNode). x ≡ y) (items q.paths) i (Some n) → path_from n ≤ i
path_behind q i n t = omega (arith, q.paths_from i, ap path_from (t.2.is (path.Negated 0 0) ∙ sym t.1))

pub pattern_behind : (q : Question) (i : ℕ) (n : PatternNode) → Told (λ (x y : PatternNode). x ≡ y) (items q.patterns) i (Some n) → pattern_from n ≤ i
pattern_behind q i n t = omega (arith, q.patterns_from i, ap pattern_from (t.2.is pattern.Empty ∙ sym t.1))

-- what stands at an index, by the node there
pub path_is_lem : {T : Type 0} (f : ℕ → T) (q : Question) (i : ℕ) (n : PathNode) → Told (λ (x y : PathNode). x ≡ y) (items q.paths) i (Some n) → path_at (paths_of f (items q.paths)) i ≡ path_of f (paths_of f (items q.paths)) n
path_is_lem f q i n t = whole (path_of f) (items q.paths) i n (negated []) t ∙ path_parts f (items q.paths) i n (path_behind q i n t) (omega (arith, t.2.within))

pub pattern_is_lem : {T V : Type 0} (e : EnvOf T V) (q : Question) (i : ℕ) (n : PatternNode) → Told (λ (x y : PatternNode). x ≡ y) (items q.patterns) i (Some n) → pattern_at (patterns_of e (items q.patterns)) i ≡ pattern_of e (patterns_of e (items q.patterns)) n
pattern_is_lem e q i n t = whole (pattern_of e) (items q.patterns) i n empty t ∙ pattern_parts e (items q.patterns) i n (pattern_behind q i n t) (omega (arith, t.2.within))

-- nothing stands past the last node
pub no_path : {T : Type 0} (f : ℕ → T) (q : Question) (i : ℕ) → length (items q.paths) ≤ i → path_at (paths_of f (items q.paths)) i ≡ negated []
no_path f q i le = nothing_there (path_of f) (items q.paths) i (negated []) le

pub no_pattern : {T V : Type 0} (e : EnvOf T V) (q : Question) (i : ℕ) → length (items q.patterns) ≤ i → pattern_at (patterns_of e (items q.patterns)) i ≡ empty
no_pattern e q i le = nothing_there (pattern_of e) (items q.patterns) i empty le
