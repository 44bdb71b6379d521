-- A question, or how a text is refused, as one line of bytes.
use Rattle.std.specs.Prelude.{◌≡◌, ℕ, List, [], ◌∷◌, ◌++◌, IfOk, Some, None, Ok, Err, codes, decimal, Option, Result}
use Rattle.terms.specs.Marks.{opening, closing}
use Rattle.terms.specs.Terms.{Term}
use Rattle.grammar.specs.declared.refusal.Refusal.{Refusal}
use Rattle.judging.specs.declared.refusal.NotBounded.{NotBounded}
use Rattle.grammar.specs.Syntax.{link, negated, inverse, star, sequence, alternative, constant, variable, empty, line, and, union, opt, nodes}
use Rattle.grammar.specs.Grammar.{Name, Ends, Paths, Patterns}
use Rattle.grammar.specs.Reading.{Asked, number_of, offset_of}
use Rattle.question.specs.Answers.{Answer}

abbrev pub name_text : Name → List ℕ
name_text x = codes "?" ++ x

-- between the marks of its kind
abbrev pub term_text : Term → List ℕ
term_text t = opening t.kind ∷ (t.bytes ++ (closing t.kind ∷ []))

abbrev pub end_text : Ends → List ℕ
end_text (constant t) = term_text t
end_text (variable x) = name_text x

-- a space before each
abbrev pub members_text : List Term → List ℕ
members_text [] = []
members_text (t ∷ ts) = codes " " ++ (term_text t ++ members_text ts)

abbrev pub path_text : Paths → List ℕ
path_text (link t) = term_text t
path_text (negated ts) = codes "(not" ++ (members_text ts ++ codes ")")
path_text (inverse p) = codes "(inv " ++ (path_text p ++ codes ")")
path_text (star p) = codes "(star " ++ (path_text p ++ codes ")")
path_text (sequence p q) = codes "(seq " ++ (path_text p ++ (codes " " ++ (path_text q ++ codes ")")))
path_text (alternative p q) = codes "(alt " ++ (path_text p ++ (codes " " ++ (path_text q ++ codes ")")))

abbrev pub pattern_text : Patterns → List ℕ
pattern_text empty = codes "(empty)"
pattern_text (line a p b) = codes "(line " ++ (end_text a ++ (codes " " ++ (path_text p ++ (codes " " ++ (end_text b ++ codes ")")))))
pattern_text (and p q) = codes "(and " ++ (pattern_text p ++ (codes " " ++ (pattern_text q ++ codes ")")))
pattern_text (union p q) = codes "(union " ++ (pattern_text p ++ (codes " " ++ (pattern_text q ++ codes ")")))
pattern_text (opt p q) = codes "(opt " ++ (pattern_text p ++ (codes " " ++ (pattern_text q ++ codes ")")))

-- a comma before each
abbrev pub more_names : List Name → List ℕ
more_names [] = []
more_names (x ∷ xs) = codes "," ++ (name_text x ++ more_names xs)

abbrev pub names_text : List Name → List ℕ
names_text [] = codes "-"
names_text (x ∷ xs) = name_text x ++ more_names xs

-- how many nodes, which variables, and the tree
abbrev pub outlined : Asked → List ℕ
outlined a = codes "ok " ++ (decimal (nodes a.pattern) ++ (codes " " ++ (names_text a.names ++ (codes " " ++ pattern_text a.pattern))))

abbrev pub place_text : Option ℕ → List ℕ
place_text None = []
place_text (Some n) = codes " at " ++ decimal n

abbrev pub refused_text : ℕ → List ℕ
refused_text number = codes "refused " ++ decimal number

abbrev pub refusal_text : Refusal → List ℕ
refusal_text r = refused_text (number_of r) ++ place_text (offset_of r)

-- what judging tells, behind the question
abbrev pub verdict_text : Result ℕ NotBounded → List ℕ
verdict_text (Ok n) = codes " sure " ++ decimal n
verdict_text (Err e) = codes " " ++ refused_text 7

-- this text was added, unless memory ran out
pub record Adds {X Y : Type 0} (r : Result X Y) (before after text : List ℕ) : Type 0 where
  pub wrote : IfOk r (λ _. after ≡ before ++ text)

-- ---- reading a text

abbrev pub answer_text : Asked → Result (Unit {0}) Refusal → List ℕ
answer_text a (Ok u) = outlined a
answer_text a (Err r) = refusal_text r

-- a text was read where one question was held, and now another is; the answer was added
pub record Reads {X Y : Type 0} (text : List ℕ) (old : Asked) (new : Asked) (r : Result X Y) (before after : List ℕ) : Type 0 where
  pub answer : Result (Unit {0}) Refusal
  pub answered : Answer text old answer new
  pub adds : Adds r before after (answer_text new answer)
