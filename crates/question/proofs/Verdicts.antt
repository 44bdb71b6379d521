-- From what the reader of a group answered to the verdict on a whole text.
use Rattle.std.proofs.Common.{◌≡◌, ℕ, ◌<◌, ◌≤◌, true, false, List, [], ◌∷◌, ◌++◌, length, sym, refl, ap, ◌∙◌, subst, arith}
use Rattle.tokens.specs.declared.token.Token.{Token}
use Rattle.tokens.specs.declared.token.Token.TheVariants.{End}
use Rattle.tokens.specs.Words.{Word, end}
use Rattle.tokens.specs.Lexed.{tokens}
use Rattle.grammar.specs.declared.refusal.Reason.{Reason}
use Rattle.grammar.specs.declared.refusal.Reason.TheVariants.{NoQuestion, TooDeep, TooManyVariables, TooLong}
use Rattle.grammar.specs.declared.refusal.Fault.{Fault}
use Rattle.grammar.specs.Syntax.{nodes, empty}
use Rattle.grammar.specs.Grammar.{is_question, is_group, Tree, whole, spell, means}
use Rattle.grammar.specs.Limits.{nothing, gather, Clear}
use Rattle.grammar.specs.Reading.{words, Lawful, Begins, Refuses, Faulty}
use Rattle.grammar.specs.Reading as reading
use Rattle.grammar.specs.Machine.{Symbol, the, a, Reaches}
use Rattle.grammar.proofs.Prefixes.{viable_prefix, going_prefix, dead_prefix}
use Rattle.question.specs.declared.reader.Reader.{Reader}
use Rattle.question.specs.Views.{View, text_of, view, Went, Failed, Because}
use Rattle.question.specs.Asking.{env, asked_at}
use Rattle.question.proofs.Going.{words-++, clear_on, gathers_on, went_open, went_on, failed_in}
use Rattle.question.proofs.Fitting.{sees}
use Rattle.question.proofs.PatternParts.{PatternDone}

-- ---- a fault

refuses : (why : Reason) (v : List Word) (x : Word) (z : List Word) (t : Token) (τ : List Symbol) → Reaches (a is_question ∷ []) (v ++ x ∷ z) (the t ∷ τ) (x ∷ z) → Because why (gather nothing v) t x → Refuses why v x
refuses NoQuestion v x z t τ r b = dead_prefix v r b
refuses TooDeep v x z t τ r b = (going_prefix v r b.0, b.1)
refuses TooManyVariables v x z t τ r b = (going_prefix v r b.0, b.1)
refuses TooLong v x z t τ r b = (going_prefix v r b.0, b.1)

opened : (p : View) → Went (a is_question ∷ []) (a is_group ∷ the End ∷ []) p p
opened p = went_open is_question (a is_group ∷ the End ∷ []) p refl

module _ (text : List ℕ) {p : View} (spots : p.spots ≡ tokens text) (seen : p.seen ≡ nothing) where
  faulty : {f : Fault} → Failed (a is_question) p f → Faulty text f
  faulty {f} h =
      let s = h.stops [] in
      let v = words h.passed in
      let z = words h.behind in
      let split : words p.spots ≡ v ++ h.here.word ∷ z = ap words h.split ∙ words-++ h.passed (h.here ∷ h.behind) in
      let reach = subst (λ u. Reaches (a is_question ∷ []) u (the s.waits ∷ s.below) (h.here.word ∷ z)) split s.reach in
      record {
        before = h.passed;
        here = h.here;
        behind = h.behind;
        split = sym spots ∙ h.split;
        place = h.place;
        begins = viable_prefix v reach;
        clear = subst (λ k. Clear k v) seen h.clear;
        refuses = refuses f.reason v h.here.word z s.waits s.below reach (subst (λ k. Because f.reason (gather k v) s.waits h.here.word) seen s.because);
      }

  pub group_faulty : {f : Fault} → Failed (a is_group) p f → Faulty text f
  group_faulty h = faulty (failed_in (opened p) h)

  module _ {q : View} {i : ℕ} (g : PatternDone is_group (λ t. means t) p q i) where
    pub end_faulty : {f : Fault} → Failed (the End) q f → Faulty text f
    end_faulty h = faulty (failed_in (went_on (opened p) g.went) h)

    module _ (last : words q.spots ≡ end ∷ []) (short : length text ≤ 2048) where
      pub lawful : Lawful text (whole g.tree)
      lawful = record {
        short = short;
        derives = ap words (sym spots) ∙ g.reads ∙ ap (spell g.tree) last;
        clear = subst (λ k. Clear k (words (tokens text))) seen
            (subst (Clear p.seen) (ap words (sym g.went.passes.split ∙ spots)) (clear_on g.went.passes q.spots (subst (Clear q.seen) (sym last) (refl, tt))));
      }

      pub gathered : q.seen ≡ gather nothing (words (tokens text))
      gathered =
          sym (gathers_on g.went.passes q.spots ∙ ap (gather q.seen) last)
          ∙ (λ j. gather (seen j) (words ((sym g.went.passes.split ∙ spots) j)))

      pub too_large : p.count ≡ 0 → p.full ≡ false → q.full ≡ true → (t : Tree is_question) × Lawful text t × (64 < nodes (means t))
      too_large none free full = (whole g.tree, lawful, omega (arith, g.counted.long free full, none))

-- ---- a question

module _ (text : List ℕ) {p : View} (r : Reader) (root : ℕ) (spots : p.spots ≡ tokens text) (seen : p.seen ≡ nothing) (g : PatternDone is_group (λ t. means t) p (view r) root) (last : words (view r).spots ≡ end ∷ []) (short : length text ≤ 2048) where
  pub a_question : p.count ≡ 0 → r.full ≡ false → reading.Question text (asked_at (text_of r) root r.built)
  a_question none free =
      let seen_is = gathered text spots seen g last short in
      record {
        tree = whole g.tree;
        lawful = lawful text spots seen g last short;
        small = omega (arith, g.counted.short free, none, r.built.few);
        pattern = ((g.held free).stands (env (text_of r) r.built) (sees r)).is empty;
        names = ap (λ s. s.names) seen_is;
        terms = ap (λ s. s.terms) seen_is;
      }

-- the nodes that were counted are those of the pattern
pub counted_all : {p : View} (r : Reader) (root : ℕ) (g : PatternDone is_group (λ t. means t) p (view r) root) → p.count ≡ 0 → r.full ≡ false → r.built.nodes ≡ nodes (asked_at (text_of r) root r.built).pattern
counted_all r root g none free = omega (arith, g.counted.short free, none, ap nodes (((g.held free).stands (env (text_of r) r.built) (sees r)).is empty))
