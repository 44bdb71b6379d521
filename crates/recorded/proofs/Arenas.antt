-- The nodes of a question stand for the same with numbers for its terms.
use Rattle.std.proofs.Common.{◌≡◌, ℕ, zero, suc, ◌+◌, ◌<◌, ◌≤◌, cond, List, [], ◌∷◌, ◌++◌, map, length, get_or, sym, refl, ap, ◌∙◌, subst, ap₂, inl, inr, Ok, arith}
use lib.ListN.{length-map}
use Rattle.std.proofs.lemmas.List.{get_or-map}
use Rattle.room.specs.Items.{items}
use Rattle.terms.specs.Terms.{Term}
use Rattle.grammar.specs.Syntax.{Path, link, negated, inverse, star, sequence, alternative, End, constant, variable, Pattern, empty, line, and, union, opt}
use Rattle.grammar.specs.Grammar.{Name, iri_term}
use Rattle.grammar.specs.Numbered.{place, renumbered_end, renumbered, asks}
use Rattle.grammar.proofs.Numbering.{place_at}
use Rattle.question.specs.declared.question.Question.{Question}
use Rattle.question.specs.declared.node.End.TheVariants as end
use Rattle.question.specs.declared.node.End.{End as Foot}
use Rattle.question.specs.declared.node.PathNode.{PathNode}
use Rattle.question.specs.declared.node.PathNode.TheVariants as path
use Rattle.question.specs.declared.node.PatternNode.{PatternNode}
use Rattle.question.specs.declared.node.PatternNode.TheVariants as pattern
use Rattle.question.specs.Arena.{name_of, term_of, grow, up_from, path_at, pattern_at, path_of, end_of, pattern_of, paths_of, patterns_of}
use Rattle.question.specs.Asking.{asked}
use Rattle.question.specs.Behind.{path_terms, end_terms, end_names, pattern_terms, pattern_names}
use Rattle.question.specs.Parts.{env_of}
use Rattle.judging.specs.Masked.{by_number, asks_by}
use Rattle.semantics.specs.Terms.{In}
use Rattle.semantics.specs.Webs.{terms_in_path, term_of_end, terms_in}
use Rattle.semantics.proofs.Lists.{in_either}
use Rattle.walks.specs.Translated.{each, path_by, end_by, pattern_by}
use Rattle.walks.proofs.Translating.{each-++}
use Rattle.lexicon.specs.Numbering.{number_of, enter_all}
use Rattle.store.proofs.Keeping.{numbers_stay}
use Rattle.store.specs.State.{entered}
use Rattle.evaluation.specs.Evaluated.{Evaluated}
use Rattle.recorded.specs.Recorded.{Known}
use Rattle.recorded.specs.Questions.{QuestionsAreNumbered, TermsAreAsked, EnteredTermsAreKnown, LookupsKeepNumbers, EvaluatedQuestionsAnswer}
use Rattle.recorded.proofs.Kept.{known_all}
use Rattle.recorded.proofs.Asking.{evaluation_answers}

-- ---- lists that grow, each member by those before it

grow_each : {X Y N : Type 0} (h : X → Y) (F : List X → N → X) (F' : List Y → N → Y) (ns : List N)
    → ((xs : List X) (n : N) → In n ns → F' (each h xs) n ≡ h (F xs n)) → (xs : List X) → grow F' (each h xs) ns ≡ each h (grow F xs ns)
grow_each h F F' [] e xs = refl
grow_each h F F' (n ∷ ns) e xs =
    ap (λ l. grow F' l ns) (ap (λ y. each h xs ++ y ∷ []) (e xs n (inl refl)) ∙ sym (each-++ h xs (F xs n ∷ [])))
    ∙ grow_each h F F' ns (λ ys m j. e ys m (inr j)) (xs ++ F xs n ∷ [])

grow_all : {X N : Type 0} (P : X → Type 0) (F : List X → N → X) (ns : List N) → ((xs : List X) (n : N) → In n ns → ((x : X) → In x xs → P x) → P (F xs n))
    → (xs : List X) → ((x : X) → In x xs → P x) → (x : X) → In x (grow F xs ns) → P x
grow_all P F [] h xs a x i = a x i
grow_all P F (n ∷ ns) h xs a x i = grow_all P F ns (λ ys m j. h ys m (inr j)) (xs ++ F xs n ∷ [])
    (λ y j. elim (in_either y xs (F xs n ∷ []) j) [
      | inl k ↦ a y k
      | inr k ↦ (elim k [ inl e ↦ subst P (sym e) (h xs n (inl refl) a) | inr e ↦ elim e [ ] ])
    ]) x i

at_each : {X Y : Type 0} (h : X → Y) (xs : List X) (i : ℕ) (d : X) (e : Y) → h d ≡ e → get_or (each h xs) i e ≡ h (get_or xs i d)
at_each h [] i d e f = sym f
at_each h (x ∷ xs) zero d e f = refl
at_each h (x ∷ xs) (suc i) d e f = at_each h xs i d e f

at_all : {X : Type 0} (P : X → Type 0) (xs : List X) (i : ℕ) (d : X) → P d → ((x : X) → In x xs → P x) → P (get_or xs i d)
at_all P [] i d p a = p
at_all P (x ∷ xs) zero d p a = a x (inl refl)
at_all P (x ∷ xs) (suc i) d p a = at_all P xs i d p (λ y j. a y (inr j))

all_at : {X : Type 0} (P : X → Type 0) (xs : List X) (d : X) → ((i : ℕ) → P (get_or xs i d)) → (x : X) → In x xs → P x
all_at P [] d h x i = elim i [ ]
all_at P (y ∷ xs) d h x (inl e) = subst P (sym e) (h zero)
all_at P (y ∷ xs) d h x (inr i) = all_at P xs d (λ k. h (suc k)) x i

pub at_in : {X : Type 0} (xs : List X) (i : ℕ) (d : X) → i < length xs → In (get_or xs i d) xs
at_in [] i d h = absurd (omega arith)
at_in (x ∷ xs) zero d h = inl refl
at_in (x ∷ xs) (suc i) d h = inr (at_in xs i d (omega arith))

map_each : {X Y Z : Type 0} (h : Y → Z) (f : X → Y) (l : X → Z) (xs : List X) → ((x : X) → In x xs → l x ≡ h (f x)) → map l xs ≡ each h (map f xs)
map_each h f l [] e = refl
map_each h f l (x ∷ xs) e = ap₂ ◌∷◌ (e x (inl refl)) (map_each h f l xs (λ y j. e y (inr j)))

up_below : (i n k : ℕ) → In k (up_from i n) → k < i + n
up_below i zero k j = elim j [ ]
up_below i (suc n) k (inl e) = omega (arith, e)
up_below i (suc n) k (inr j) = omega (arith, up_below (i + 1) n k j)

in_map : {X Y : Type 0} (f : X → Y) (xs : List X) (y : Y) → In y (map f xs) → (x : X) × In x xs × (y ≡ f x)
in_map f [] y i = elim i [ ]
in_map f (x ∷ xs) y (inl e) = (x, inl refl, e)
in_map f (x ∷ xs) y (inr i) = let r = in_map f xs y i in (r.0, inr r.1, r.2)

either_in : {X : Type 0} (P : X → Type 0) (l m : List X) → ((t : X) → In t l → P t) → ((t : X) → In t m → P t) → (t : X) → In t (l ++ m) → P t
either_in P l m h k t i = elim (in_either t l m i) [ inl j ↦ h t j | inr j ↦ k t j ]

module _ (q : Question) where
  abbrev ts : List Term
  ts = (asked q).terms

  abbrev term : ℕ → Term
  term = (env_of q).term

  many : length ts ≡ length (items q.terms)
  many = length-map (items q.terms) (term_of (items q.text))

  path_ok : (n : PathNode) → In n (items q.paths) → path_terms n ≤ length ts
  path_ok n i = omega (arith, many, all_at (λ m. path_terms m ≤ length (items q.terms)) (items q.paths) (path.Negated 0 0) q.paths_terms n i)

  pattern_ok : (n : PatternNode) → In n (items q.patterns) → pattern_terms n ≤ length ts
  pattern_ok n i = omega (arith, many, all_at (λ m. pattern_terms m ≤ length (items q.terms)) (items q.patterns) pattern.Empty q.patterns_terms n i)

  names_ok : (n : PatternNode) → In n (items q.patterns) → pattern_names n ≤ length (asked q).names
  names_ok n i = omega (
    arith,
    length-map (items q.names) (name_of (items q.text)),
    all_at (λ m. pattern_names m ≤ length (items q.names)) (items q.patterns) pattern.Empty q.patterns_names n i,
  )

  -- ---- numbers for terms

  module _ (g : Term → ℕ) where
    abbrev numbers : List ℕ
    numbers = map g (asked q).terms

    abbrev number : ℕ → ℕ
    number = (by_number numbers q).term

    number_at : (i : ℕ) → i < length ts → number i ≡ g (term i)
    number_at i h = get_or-map g ts i (iri_term []) 0 h

    path_node : (ps : List (Path Term)) (n : PathNode) → path_terms n ≤ length ts → path_of number (each (path_by g) ps) n ≡ path_by g (path_of term ps n)
    path_node ps (path.Link t) h = ap link (number_at t (omega (arith, h)))
    path_node ps (path.Negated i n) h = ap negated (map_each g term number (up_from i n) (λ k j. number_at k (omega (arith, h, up_below i n k j))))
    path_node ps (path.Inverse p) h = ap inverse (at_each (path_by g) ps p (negated []) (negated []) refl)
    path_node ps (path.Star p) h = ap star (at_each (path_by g) ps p (negated []) (negated []) refl)
    path_node ps (path.Sequence p r) h =
        ap₂ sequence (at_each (path_by g) ps p (negated []) (negated []) refl) (at_each (path_by g) ps r (negated []) (negated []) refl)
    path_node ps (path.Alternative p r) h =
        ap₂ alternative (at_each (path_by g) ps p (negated []) (negated []) refl) (at_each (path_by g) ps r (negated []) (negated []) refl)

    paths_are : paths_of number (items q.paths) ≡ each (path_by g) (paths_of term (items q.paths))
    paths_are = grow_each (path_by g) (path_of term) (path_of number) (items q.paths) (λ ps n i. path_node ps n (path_ok n i)) []

    path_is : (i : ℕ) → (by_number numbers q).path i ≡ path_by g ((env_of q).path i)
    path_is i = ap (λ l. path_at l i) paths_are ∙ at_each (path_by g) (paths_of term (items q.paths)) i (negated []) (negated []) refl

    -- and for variables
    abbrev pattern_number : Pattern Term Name → Pattern ℕ ℕ
    pattern_number p = pattern_by g (renumbered (place (asked q).names) p)

    end_is : (e : Foot ℕ) → end_terms e ≤ length ts → end_names e ≤ length (asked q).names
        → end_of number (λ v. v) e ≡ end_by g (renumbered_end (place (asked q).names) (end_of term (env_of q).name e))
    end_is (end.Term t) h k = ap constant (number_at t (omega (arith, h)))
    end_is (end.Variable v) h k = ap variable (sym (place_at (asked q).names v.number q.distinct (omega (arith, k))))

    pattern_node : (ps : List (Pattern Term Name)) (n : PatternNode) → pattern_terms n ≤ length ts → pattern_names n ≤ length (asked q).names
        → pattern_of (by_number numbers q) (each pattern_number ps) n ≡ pattern_number (pattern_of (env_of q) ps n)
    pattern_node ps pattern.Empty h k = refl
    pattern_node ps (pattern.Line l) h k =
        ap₂ (λ a b. line a ((by_number numbers q).path l.path) b)
        (end_is l.subject (omega (arith, h)) (omega (arith, k))) (end_is l.object (omega (arith, h)) (omega (arith, k)))
        ∙ ap (λ p. line (end_by g (renumbered_end (place (asked q).names) (end_of term (env_of q).name l.subject))) p
        (end_by g (renumbered_end (place (asked q).names) (end_of term (env_of q).name l.object)))) (path_is l.path)
    pattern_node ps (pattern.And p r) h k =
        ap₂ and (at_each pattern_number ps p empty empty refl) (at_each pattern_number ps r empty empty refl)
    pattern_node ps (pattern.Union p r) h k =
        ap₂ union (at_each pattern_number ps p empty empty refl) (at_each pattern_number ps r empty empty refl)
    pattern_node ps (pattern.Opt p r) h k =
        ap₂ opt (at_each pattern_number ps p empty empty refl) (at_each pattern_number ps r empty empty refl)

    pub pattern_is : asks_by numbers q q.root ≡ pattern_by g (asks (asked q))
    pattern_is =
        ap (λ l. pattern_at l q.root)
        (grow_each pattern_number (pattern_of (env_of q)) (pattern_of (by_number numbers q)) (items q.patterns)
        (λ ps n i. pattern_node ps n (pattern_ok n i) (names_ok n i)) [])
        ∙ at_each pattern_number (patterns_of (env_of q) (items q.patterns)) q.root empty empty refl

  -- ---- what is asked has only the question's terms

  abbrev Ours : List Term → Type 0
  Ours l = (t : Term) → In t l → In t (asked q).terms

  term_in : (i : ℕ) → i < length ts → In (term i) ts
  term_in i h = at_in ts i (iri_term []) h

  only_in : (u : Term) → In u ts → (t : Term) → In t (u ∷ []) → In t ts
  only_in u h t (inl e) = subst (λ z. In z ts) (sym e) h
  only_in u h t (inr j) = elim j [ ]

  path_ours : (ps : List (Path Term)) (n : PathNode) → path_terms n ≤ length ts → ((p : Path Term) → In p ps → Ours (terms_in_path p))
      → Ours (terms_in_path (path_of term ps n))
  path_ours ps (path.Link i) h a t j = only_in (term i) (term_in i (omega (arith, h))) t j
  path_ours ps (path.Negated i n) h a t j =
      let k = in_map term (up_from i n) t j in
      subst (λ z. In z ts) (sym k.2) (term_in k.0 (omega (arith, h, up_below i n k.0 k.1)))
  path_ours ps (path.Inverse p) h a t i = at_all (λ z. Ours (terms_in_path z)) ps p (negated []) (λ t j. elim j [ ]) a t i
  path_ours ps (path.Star p) h a t i = at_all (λ z. Ours (terms_in_path z)) ps p (negated []) (λ t j. elim j [ ]) a t i
  path_ours ps (path.Sequence p r) h a t i = either_in (λ t. In t ts) (terms_in_path (path_at ps p)) (terms_in_path (path_at ps r))
      (at_all (λ z. Ours (terms_in_path z)) ps p (negated []) (λ t j. elim j [ ]) a)
      (at_all (λ z. Ours (terms_in_path z)) ps r (negated []) (λ t j. elim j [ ]) a) t i
  path_ours ps (path.Alternative p r) h a t i = either_in (λ t. In t ts) (terms_in_path (path_at ps p)) (terms_in_path (path_at ps r))
      (at_all (λ z. Ours (terms_in_path z)) ps p (negated []) (λ t j. elim j [ ]) a)
      (at_all (λ z. Ours (terms_in_path z)) ps r (negated []) (λ t j. elim j [ ]) a) t i

  path_at_ours : (i : ℕ) → Ours (terms_in_path ((env_of q).path i))
  path_at_ours i = at_all (λ z. Ours (terms_in_path z)) (paths_of term (items q.paths)) i (negated []) (λ t j. elim j [ ])
      (grow_all (λ z. Ours (terms_in_path z)) (path_of term) (items q.paths) (λ ps n j. path_ours ps n (path_ok n j)) [] (λ p j. elim j [ ]))

  end_ours : (e : Foot ℕ) → end_terms e ≤ length ts → Ours (term_of_end (end_of term (env_of q).name e))
  end_ours (end.Term i) h t (inl e) = subst (λ z. In z ts) (sym e) (term_in i (omega (arith, h)))
  end_ours (end.Term i) h t (inr j) = elim j [ ]
  end_ours (end.Variable v) h t j = elim j [ ]

  pattern_ours : (ps : List (Pattern Term Name)) (n : PatternNode) → pattern_terms n ≤ length ts → ((p : Pattern Term Name) → In p ps → Ours (terms_in p))
      → Ours (terms_in (pattern_of (env_of q) ps n))
  pattern_ours ps pattern.Empty h a t j = elim j [ ]
  pattern_ours ps (pattern.Line l) h a t i =
      let x = term_of_end (end_of term (env_of q).name l.subject) in
      let y = terms_in_path ((env_of q).path l.path) in
      either_in (λ t. In t ts) (x ++ y) (term_of_end (end_of term (env_of q).name l.object))
      (either_in (λ t. In t ts) x y (end_ours l.subject (omega (arith, h))) (path_at_ours l.path)) (end_ours l.object (omega (arith, h))) t i
  pattern_ours ps (pattern.And p r) h a t i = either_in (λ t. In t ts) (terms_in (pattern_at ps p)) (terms_in (pattern_at ps r))
      (at_all (λ z. Ours (terms_in z)) ps p empty (λ t j. elim j [ ]) a) (at_all (λ z. Ours (terms_in z)) ps r empty (λ t j. elim j [ ]) a) t i
  pattern_ours ps (pattern.Union p r) h a t i = either_in (λ t. In t ts) (terms_in (pattern_at ps p)) (terms_in (pattern_at ps r))
      (at_all (λ z. Ours (terms_in z)) ps p empty (λ t j. elim j [ ]) a) (at_all (λ z. Ours (terms_in z)) ps r empty (λ t j. elim j [ ]) a) t i
  pattern_ours ps (pattern.Opt p r) h a t i = either_in (λ t. In t ts) (terms_in (pattern_at ps p)) (terms_in (pattern_at ps r))
      (at_all (λ z. Ours (terms_in z)) ps p empty (λ t j. elim j [ ]) a) (at_all (λ z. Ours (terms_in z)) ps r empty (λ t j. elim j [ ]) a) t i

  whole_ours : Ours (terms_in (asked q).pattern)
  whole_ours = at_all (λ z. Ours (terms_in z)) (patterns_of (env_of q) (items q.patterns)) q.root empty (λ t j. elim j [ ])
      (grow_all (λ z. Ours (terms_in z)) (pattern_of (env_of q)) (items q.patterns) (λ ps n j. pattern_ours ps n (pattern_ok n j)) [] (λ p j. elim j [ ]))

-- a question has the same terms with its variables by number
end_renumbered : {V W : Type 0} (f : V → W) (e : End Term V) → term_of_end (renumbered_end f e) ≡ term_of_end e
end_renumbered f (constant t) = refl
end_renumbered f (variable v) = refl

terms_renumbered : {V W : Type 0} (f : V → W) (p : Pattern Term V) → terms_in (renumbered f p) ≡ terms_in p
terms_renumbered f empty = refl
terms_renumbered f (line a p b) = ap₂ (λ x y. (x ++ terms_in_path p) ++ y) (end_renumbered f a) (end_renumbered f b)
terms_renumbered f (and p q) = ap₂ ◌++◌ (terms_renumbered f p) (terms_renumbered f q)
terms_renumbered f (union p q) = ap₂ ◌++◌ (terms_renumbered f p) (terms_renumbered f q)
terms_renumbered f (opt p q) = ap₂ ◌++◌ (terms_renumbered f p) (terms_renumbered f q)

-- ---- laws

pub questions_are_numbered : QuestionsAreNumbered
questions_are_numbered us q = pattern_is q (number_of us)

pub terms_are_asked : TermsAreAsked
terms_are_asked us q h t i =
    h t (whole_ours q t (subst (λ l. In t l) (terms_renumbered (place (asked q).names) (asked q).pattern) i))

pub entered_terms_are_known : EnteredTermsAreKnown
entered_terms_are_known s q before e =
    let ts = (asked q).terms in
    let all : (entered ts s).terms ≡ enter_all s.terms ts =
    ap (λ b. (cond b (record { terms = enter_all s.terms ts; entries = s.entries; triples = s.triples }) s).terms) e in (
      subst (λ l. Known l ts) (sym all) (known_all s.terms ts),
      ap (λ b. cond b (map (number_of (enter_all s.terms ts)) ts) before) e ∙ ap (λ l. map (number_of l) ts) (sym all),
    )

pub lookups_keep_numbers : LookupsKeepNumbers
lookups_keep_numbers t n s [] h = (λ u i. (elim i [ ]), refl)
lookups_keep_numbers t n s (x ∷ ts) h = (
  λ u i. subst (λ k. 0 < k) (sym (numbers_stay t n s u (h u i))) (h u i),
  ap₂ ◌∷◌ (numbers_stay t n s x (h x (inl refl))) (lookups_keep_numbers t n s ts (λ u i. h u (inr i))).1,
)

pub evaluated_questions_answer : {C : Type 0} → EvaluatedQuestionsAnswer C
evaluated_questions_answer mark meaning s h a r l n e k w marks table t all W u =
    let q = a.judged.now.question in
    evaluation_answers mark meaning s h (asks (asked q)) r l (terms_are_asked s.terms q n) a.judged.now.bounded k w marks table
    (subst (λ p. Evaluated k h p (Ok tt) marks table) (ap (λ ns. asks_by ns q q.root) e ∙ questions_are_numbered s.terms q) t) all W u
