-- The facts about the lines that select or imply a symbol.
use Rattle.std.proofs.Common.{◌≡◌, ℕ, suc, ◌+◌, ◌<◌, ◌≤◌, Bool, true, false, cond, List, [], ◌∷◌, ◌++◌, filter, get_or, length, map, not, Option, refl, ap, sym, take, ◌∙◌, append-nil, arith}
use Rattle.std.specs.Prelude.{if◌then◌else◌}
use Rattle.std.specs.List.{flat_map}
use Rattle.std.proofs.lemmas.Grind.{flat_map-append}
use Rattle.std.proofs.lemmas.List.{map-append, take_more}
use Rattle.kc_language.specs.Expressions.{Form, lesser, truth_of_value}
use Rattle.kc_language.specs.Texts.{known}
use Rattle.kc_language.specs.Values.{is_n}
use Rattle.kc_language.specs.declared.expressions.{SymId.{SymId}, Tri.{Tri}}
use Rattle.kc_language.specs.declared.symbols.SelectOrImply.{SelectOrImply}
use Rattle.kc_outcome.specs.Explanations as rules
use Rattle.kc_tree.specs.Layouts.{statements_in}
use Rattle.kc_explain.specs.FactLists.{raises_of}
use Rattle.kc_explain.specs.FactViews.{FactView, NotRaised, RaisedBy, fact_in}
use Rattle.kc_explain.specs.LineViews.{Target, lines_of, target_in}
use Rattle.kc_explain.specs.PartViews.{parts_value, said_in, value_under}
use Rattle.kc_explain.specs.PartsOfExplanations.{dependency_parts}
use Rattle.kc_explain.specs.RaiseFacts.{all_raised, not_raised, not_raising, raises, value_of}
use Rattle.kc_explain.specs.declared.teller.Teller.{Teller}
use Rattle.kc_explain.proofs.PartLemmas.{line-value}

-- ---- One line more
pub flat-more : {X Y Z : Type 0} (f : Y → List Z) (v : X → Y) (xs : List X) (i : ℕ) (x : X) → i < length xs → x ≡ get_or xs i x →
    flat_map f (map v (take (i + 1) xs)) ≡ flat_map f (map v (take i xs)) ++ f (v x)
flat-more f v xs i x h e =
    ap (λ ys. flat_map f (map v ys)) (take_more xs i x h ∙ ap (λ y. take i xs ++ y ∷ []) (sym e))
    ∙ ap (flat_map f) (map-append v (take i xs) (x ∷ [])) ∙ flat_map-append f (map v (take i xs)) (v x ∷ [])
    ∙ ap (λ r. flat_map f (map v (take i xs)) ++ r) (append-nil (f (v x)))

pub at-most-one : (r : Teller) (t : Target) → length (not_raised r t) ≤ 1
at-most-one r t = by (raises r t)
  where
    by : (b : Bool) → length (if b then [] else t ∷ []) ≤ 1
    by true = omega arith
    by false = omega arith

-- ---- All lines
module _ (r : Teller) (word : SelectOrImply) where
  abbrev Line : Type 0
  Line = SymId × rules.Said (Option Form)

  abbrev see : Line → Target
  see q = target_in (lines_of r.layout.now) q

  abbrev worth : Line → Tri
  worth q = rules.raise_value (statements_in r.layout.now) r.solved.now.tree r.input.now (known r.solved.now) q

  abbrev fact : Line → rules.Fact
  fact q = rules.RaisedBy word q (truth_of_value (known r.solved.now (q.0))) (worth q)

  worth-is : (q : Line) → value_of r (see q) ≡ worth q
  worth-is q =
      ap (λ ps. lesser (truth_of_value (known r.solved.now (q.0))) (value_under r.solved.now (parts_value r.solved.now ps) (q.1).what)) (append-nil (dependency_parts (lines_of r.layout.now) (q.1).entry))
      ∙ ap (lesser (truth_of_value (known r.solved.now (q.0)))) (line-value r.layout.now r.solved.now r.input.now (λ (w : Option Form). w) (q.1))

  raised-are : (qs : List Line) → all_raised r word (map see qs) ≡ map (fact_in (lines_of r.layout.now)) (map fact (filter (λ q. not (is_n (worth q))) qs))
  raised-are [] = refl
  raised-are (q ∷ qs) =
      (λ j. (if not (is_n (worth-is q j)) then RaisedBy word (q.0) (said_in (lines_of r.layout.now) (q.1)) (truth_of_value (known r.solved.now (q.0))) (worth-is q j) ∷ [] else []) ++ raised-are qs j)
      ∙ by (not (is_n (worth q)))
    where
      by : (b : Bool) → (if b then RaisedBy word (q.0) (said_in (lines_of r.layout.now) (q.1)) (truth_of_value (known r.solved.now (q.0))) (worth q) ∷ [] else [])
          ++ map (fact_in (lines_of r.layout.now)) (map fact (filter (λ p. not (is_n (worth p))) qs))
          ≡ map (fact_in (lines_of r.layout.now)) (map fact (cond b (q ∷ filter (λ p. not (is_n (worth p))) qs) (filter (λ p. not (is_n (worth p))) qs)))
      by true = refl
      by false = refl

  count-is : (qs : List Line) → length (not_raising r (map see qs)) ≡ length (filter (λ q. is_n (worth q)) qs)
  count-is [] = refl
  count-is (q ∷ qs) = (λ j. length ((if not (is_n (worth-is q j)) then [] else see q ∷ []) ++ not_raising r (map see qs))) ∙ by (is_n (worth q)) (count-is qs)
    where
      by : (b : Bool) → length (not_raising r (map see qs)) ≡ length (filter (λ p. is_n (worth p)) qs) → length ((if not b then [] else see q ∷ []) ++ not_raising r (map see qs)) ≡ length (cond b (q ∷ filter (λ p. is_n (worth p)) qs) (filter (λ p. is_n (worth p)) qs))
      by true e = ap suc e
      by false e = e

  -- the other lines
  abbrev rest : List Line → List rules.Fact
  rest qs = elim qs [ [] ↦ [] | q ∷ more ↦ rules.NotRaised word (q ∷ more) ∷ [] ]

  rest-none : (qs : List Line) → length qs ≤ 0 → [] ≡ map (fact_in (lines_of r.layout.now)) (rest qs)
  rest-none [] h = refl
  rest-none (q ∷ qs) h = absurd (omega (arith, h))

  rest-some : (qs : List Line) (n : ℕ) → 0 < n → n ≡ length qs → NotRaised word n ∷ [] ≡ map (fact_in (lines_of r.layout.now)) (rest qs)
  rest-some [] n h e = absurd (omega (arith, h, e))
  rest-some (q ∷ qs) n h e = ap (λ m. NotRaised word m ∷ []) e

  module _ (s : SymId) (ts : List Target) (lines : ts ≡ map see (rules.raising_lines (statements_in r.layout.now) word s)) where
    abbrev qs : List Line
    qs = rules.raising_lines (statements_in r.layout.now) word s

    counted : (n : ℕ) → n ≡ length (not_raising r ts) → n ≡ length (filter (λ q. is_n (worth q)) qs)
    counted n e = e ∙ ap (λ xs. length (not_raising r xs)) lines ∙ count-is qs

    joined : (more : List FactView) → more ≡ map (fact_in (lines_of r.layout.now)) (rest (filter (λ q. is_n (worth q)) qs)) → all_raised r word ts ++ more ≡ raises_of r word s
    joined more e =
        (λ j. (ap (all_raised r word) lines ∙ raised-are qs) j ++ e j)
        ∙ sym (map-append (fact_in (lines_of r.layout.now)) (map fact (filter (λ q. not (is_n (worth q))) qs)) (rest (filter (λ q. is_n (worth q)) qs)))

    pub all-raise : (n : ℕ) → n ≡ length (not_raising r ts) → n ≤ 0 → all_raised r word ts ≡ raises_of r word s
    all-raise n e h =
        let c = counted n e in
        sym (append-nil (all_raised r word ts)) ∙ joined [] (rest-none (filter (λ q. is_n (worth q)) qs) (omega (arith, c, h)))

    pub some-do-not : (n : ℕ) → n ≡ length (not_raising r ts) → 0 < n → all_raised r word ts ++ NotRaised word n ∷ [] ≡ raises_of r word s
    some-do-not n e h = joined (NotRaised word n ∷ []) (rest-some (filter (λ q. is_n (worth q)) qs) n h (counted n e))
