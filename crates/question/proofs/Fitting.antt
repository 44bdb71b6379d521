-- What is held is there: the indices that a new node names.
use Rattle.std.proofs.Common.{◌≡◌, ℕ, ◌<◌, ◌≤◌, false, List, [], ◌∷◌, ◌++◌, length, get_or, Some, None, Option, sym, ap, ◌∙◌, subst, inl, inr, arith, length-append}
use lib.ListN.{length-map}
use Rattle.std.proofs.lemmas.List.{get_or_append_left, get_or_push, get_or_past, length_push}
use Rattle.std.proofs.str.Laws.{order}
use Rattle.room.specs.Items.{items}
use Rattle.grammar.specs.Syntax.{negated}
use Rattle.tokens.specs.declared.token.Token.{Token}
use Rattle.tokens.specs.declared.token.Token.TheVariants.{Iri, Dot}
use Rattle.grammar.specs.Grammar.{Kind, is_path, means, iri_term, Paths, Patterns}
use Rattle.grammar.specs.Machine.{a}
use Rattle.question.specs.declared.node.End.{End}
use Rattle.question.specs.declared.reader.Reader.{Reader}
use Rattle.question.specs.declared.node.PathNode.TheVariants as path
use Rattle.question.specs.declared.node.PatternNode.TheVariants as pattern
use Rattle.question.specs.Arena.{name_of, path_of, pattern_of}
use Rattle.question.specs.Views.{View, text_of, view, seen_of, Passes, Kept, Went, Sees, HeldPath, HeldPattern}
use Rattle.question.specs.Outcomes.{HeldLeft, Took, ReadEnd, Emptied}
use Rattle.question.specs.Asking.{env}
use Rattle.question.specs.Within.{PathFits, PatternFits, PatternThere, LeftThere}
use Rattle.question.proofs.Holding.{grow_length, passed_names, passed_length, terms_length, path_stays, Onward, onward_then}
use Rattle.question.proofs.PathParts.{PathDone, took_number, took_onward, read_onward}

-- the numbers of a question stand for what it has by them
pub sees : (r : Reader) → Sees (view r) (env (text_of r) r.built)
sees r = record { terms = λ i x s. s.is (iri_term []); names = λ i x s. s.is []; paths = λ i x s. s.is (negated []) }

pub path_there : (r : Reader) {i : ℕ} {x : Paths} → HeldPath (view r) i x → i < length (items r.built.paths)
path_there r h =
    omega (arith, (h.stands (env (text_of r) r.built) (sees r)).within, grow_length (path_of (env (text_of r) r.built).term) [] (items r.built.paths))

pub pattern_there : (r : Reader) {i : ℕ} {x : Patterns} → HeldPattern (view r) i x → i < length (items r.built.patterns)
pattern_there r h =
    omega (arith, (h.stands (env (text_of r) r.built) (sees r)).within, grow_length (pattern_of (env (text_of r) r.built)) [] (items r.built.patterns))

pub left_there : (r : Reader) (o : Option ℕ) (v : Option Patterns) → (r.full ≡ false → HeldLeft (view r) o v) → LeftThere r o
left_there r None v h = tt
left_there r (Some i) None h = λ f. absurd (h f)
left_there r (Some i) (Some v) h = λ f. pattern_there r (h f)

pub names_length : (r : Reader) → length (items r.built.names) ≡ length (seen_of r).names
names_length r = sym (length-map (items r.built.names) (name_of (text_of r)))

pub passed_names_length : {p q : View} → Passes p q → length p.seen.names ≤ length q.seen.names
passed_names_length {p} {q} g = let m = passed_names g in omega (arith, ap length m.1 ∙ length-append p.seen.names m.0)

-- ---- a list with one element more keeps what each element asks

pub pushed : {X : Type 0} (f : X → ℕ) (g : ℕ → ℕ) (xs ys : List X) (x d : X) → ys ≡ xs ++ x ∷ [] → ((i : ℕ) → f (get_or xs i d) ≤ g i) → f x ≤ g (length xs) → f d ≡ 0 → (i : ℕ) → f (get_or ys i d) ≤ g i
pushed f g xs ys x d e old new none i =
    subst (λ l. f (get_or l i d) ≤ g i) (sym e) (elim (order i (length xs)) [
      | inl h ↦ subst (λ y. f y ≤ g i) (sym (get_or_append_left xs (x ∷ []) d i h)) (old i)
      | inr h ↦ elim (order (length xs) i) [
        | inl k ↦ subst (λ y. f y ≤ g i) (sym (get_or_past (xs ++ x ∷ []) i d (omega (arith, length_push xs x)))) (omega (arith, none))
        | inr k ↦ (let at : length xs ≡ i = omega arith in subst (λ y. f y ≤ g i) (sym (get_or_push xs x d i at)) (subst (λ n. f x ≤ g n) at new))
      ]
    ])

-- ---- nodes

module _ {r : Reader} where
  pub link_fits : {p : View} {n : ℕ} → Took Iri p (view r) n → PathFits r (path.Link n)
  link_fits h = record { from = λ f. omega arith; terms = λ f. omega (arith, (took_number h).within, terms_length r) }

  pub inverse_fits : {i : ℕ} {x : Paths} → (r.full ≡ false → HeldPath (view r) i x) → PathFits r (path.Inverse i)
  inverse_fits h = record { from = λ f. omega (arith, path_there r (h f)); terms = λ f. omega arith }

  pub alternative_fits : {i j : ℕ} {x y : Paths} → (r.full ≡ false → HeldPath (view r) i x) → (r.full ≡ false → HeldPath (view r) j y) → PathFits r (path.Alternative i j)
  alternative_fits h k = record { from = λ f. omega (arith, path_there r (h f), path_there r (k f)); terms = λ f. omega arith }

  pub sequence_fits : {i j : ℕ} {x y : Paths} → (r.full ≡ false → HeldPath (view r) i x) → (r.full ≡ false → HeldPath (view r) j y) → PathFits r (path.Sequence i j)
  sequence_fits h k = record { from = λ f. omega (arith, path_there r (h f), path_there r (k f)); terms = λ f. omega arith }

  pub union_fits : {i j : ℕ} {x y : Patterns} → (r.full ≡ false → HeldPattern (view r) i x) → (r.full ≡ false → HeldPattern (view r) j y) → PatternFits r (pattern.Union i j)
  union_fits h k = record { from = λ f. omega (arith, pattern_there r (h f), pattern_there r (k f)); paths = λ f. omega arith; terms = λ f. omega arith; names = λ f. omega arith }

  pub opt_fits : {i j : ℕ} {y : Patterns} → PatternThere r i → (r.full ≡ false → HeldPattern (view r) j y) → PatternFits r (pattern.Opt i j)
  opt_fits h k = record { from = λ f. omega (arith, h f, pattern_there r (k f)); paths = λ f. omega arith; terms = λ f. omega arith; names = λ f. omega arith }

  pub line_fits : {p q s u : View} {x y : End ℕ} {l n : ℕ} → ReadEnd p q x → PathDone is_path (λ t. means t) q s l → ReadEnd s u y → Took Dot u (view r) n → PatternFits r (pattern.Line (record { subject = x; path = l; object = y }))
  line_fits x b y d = record {
    from = λ f. omega arith;
    paths = λ f.
        let fu = d.went.kept.free f in
        omega (arith, path_there r (path_stays (onward_then (read_onward y.went fu) (took_onward d f)) (b.held (y.went.kept.free fu))));
    terms = λ f. omega (arith, x.terms, y.terms, terms_length r, passed_length b.went.passes, passed_length y.went.passes, passed_length d.went.passes);
    names = λ f. omega (arith, x.names, y.names, names_length r, passed_names_length b.went.passes, passed_names_length y.went.passes, passed_names_length d.went.passes);
  }

-- what stands to the left of a sign and a part is still there behind them
module _ {t : Token} {k : Kind} {p q s : View} {n : ℕ} (sign : Took t p q n) (right : Went (a k ∷ []) [] q s) where
  pub past : s.full ≡ false → Onward p s
  past f = onward_then (took_onward sign (right.kept.free f)) (read_onward right f)

  pub past_free : s.full ≡ false → p.full ≡ false
  past_free f = sym sign.idle.full ∙ right.kept.free f

-- ---- the left of a group

module _ (r s : Reader) where
  longer : Kept (view r) (view s) → s.full ≡ false → length (items r.built.patterns) ≤ length (items s.built.patterns)
  longer k f =
      let g = k.patterns f in
      omega (arith, ap length g.1 ∙ length-append (items r.built.patterns) g.0)

  pub pattern_still : {i : ℕ} → PatternThere r i → Kept (view r) (view s) → PatternThere s i
  pattern_still h k f = omega (arith, h (k.free f), longer k f)

  pub left_still : (o : Option ℕ) → LeftThere r o → Kept (view r) (view s) → LeftThere s o
  left_still None h k = tt
  left_still (Some i) h k = pattern_still h k

  pub emptied_there : (o : Option ℕ) (l : ℕ) → LeftThere r o → Emptied o (view r) (view s) l → PatternThere s l
  emptied_there None l h x f =
      omega (arith, x.index f, ap length (x.patterns f) ∙ length_push (items r.built.patterns) pattern.Empty)
  emptied_there (Some i) l h x f =
      omega (arith, h (ap (λ v. v.full) (sym x.0) ∙ f), x.1, ap (λ v. length v.patterns) x.0)
