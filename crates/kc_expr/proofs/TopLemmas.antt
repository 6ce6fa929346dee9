-- What a whole expression's reading says of the longest front.
use Rattle.std.proofs.Common.{Bool, Err, IfErr, List, None, Ok, Result, Some, [], ap, append-nil, arith, false, inr, option_and_then, refl, subst, sym, true, ℕ, ◌++◌, ◌+◌, ◌∙◌, ◌∷◌, ◌≡◌, ◌≤◌}
use Rattle.kc_expr.specs.{Parsing.{IsParsed, IsRefused}, PartsOfExpressions.{NoLonger, levels_or, spell_or}, Reading.{Broken, Deep, FailsChain, Fresh_start, IsUnfinished, ParsedChain, Refuses, StopsChain}, Scan.{State, after, lone_in, run, want}, declared.parse.ExprFault.{ExprFault, TheVariants.{Memory, Syntax, TooDeep}}}
use Rattle.kc_language.specs.{Expressions.{Disjunction, Form, IsNoExpression, IsTooDeep, LongestFront, Terminal, levels, spell}, declared.expressions.Connective.TheVariants.Or}
use Rattle.kc_expr.proofs.{ReadingLemmas.refuses_after, ScanLemmas.{reads, run-append}}

abbrev start : State
start = want 0 0 []

runs : (d : Disjunction) (limit : ℕ) → levels_or d ≤ limit → run limit start (spell_or d) ≡ Some (after (lone_in d) 0 [])
runs d limit h = ap (run limit start) (sym (append-nil (spell_or d))) ∙ reads d limit 0 [] [] (omega arith)

-- where the machine fails, nothing begins
fails_not_begins : (limit : ℕ) (front : List Terminal) → run limit start front ≡ None → (d : Disjunction) (rest : List Terminal) → levels_or d ≤ limit → spell_or d ≡ front ++ rest → ⊥
fails_not_begins limit front none d rest w e =
    let some = runs d limit w in
    let no = ap (run limit start) e ∙ run-append limit start front rest ∙ ap (option_and_then (λ s. run limit s rest)) none in
    cc

no_longer : (front rest : List Terminal) → ((limit : ℕ) → 64 ≤ limit → (s : State) × (run limit start front ≡ Some s) × Refuses limit s rest) → NoLonger front rest
no_longer front [] h = tt
no_longer front (t ∷ ts) h = λ b.
    let limit = levels_or b.0 + 64 in
    let x = h limit (omega arith) in
    let none = run-append limit start front (t ∷ []) ∙ ap (option_and_then (λ s. run limit s (t ∷ []))) x.1 ∙ ap (option_and_then (λ s. run limit s [])) x.2 in
    fails_not_begins limit (front ++ t ∷ []) none b.0 b.1 (omega arith) b.2

unfinished_after : (b : Bool) → IsUnfinished (after b 0 []) → ⊥
unfinished_after true h = h
unfinished_after false h = h

-- a whole expression that nothing can follow is the longest front
pub longest_of : (d : Disjunction) (rest : List Terminal) → levels d ≤ 64 → StopsChain Or d rest → LongestFront (spell d ++ rest) (spell d) rest
longest_of d rest w stops = record {
  whole = refl;
  begins = (d, [], sym (append-nil (spell d)));
  longest = no_longer (spell d) rest (λ limit h.
      (after (lone_in d) 0 [], runs d limit (omega arith), refuses_after limit (lone_in d) 0 [] rest stops.0 stops.1 stops.2 (inr refl)));
}

pub is_parsed : (condition : Bool) (ts rest : List Terminal) (old names : List (List ℕ)) (f : Form) → ParsedChain Or condition 64 ts rest old names f → IsParsed condition ts rest old names f
is_parsed condition ts rest old names f p = record {
  front = spell p.tree;
  longest = subst (λ l. LongestFront l (spell p.tree) rest) (sym p.whole) (longest_of p.tree rest p.within p.stops);
  tree = p.tree;
  derives = refl;
  within = p.within;
  mentions = p.mentions;
  form = p.form;
}

is_no_expression : (ts : List Terminal) → Broken {T = Disjunction} spell levels Fresh_start 64 ts → IsNoExpression ts
is_no_expression ts b = record {
  front = b.front;
  rest = b.rest;
  longest = record {
    whole = b.whole;
    begins = (b.tree, b.rest_of_tree, b.begins);
    longest = no_longer b.front b.rest (λ limit h. let x = b.cannot_go_on limit 0 0 [] refl (omega arith) in (x.0, x.1, x.3));
  };
  within = (b.tree, b.rest_of_tree, b.within, b.begins);
  none = λ d e.
      let limit = levels_or d + 64 in
      let x = b.cannot_go_on limit 0 0 [] refl (omega arith) in
      let y = runs d limit (omega arith) in
      let z = ap (run limit start) e in
      let same : x.0 ≡ after (lone_in d) 0 [] = cc in
      unfinished_after (lone_in d) (subst IsUnfinished same x.2);
}

is_too_deep : (ts : List Terminal) → Deep {T = Disjunction} spell levels Fresh_start 64 ts → IsTooDeep ts
is_too_deep ts b = record {
  front = b.front;
  rest = b.rest;
  whole = b.whole;
  begins = (b.tree, b.rest_of_tree, b.begins);
  deep = λ x. fails_not_begins 64 b.front (b.deep 0 0 [] refl) x.0 x.1 x.2 x.3;
}

pub is_refused : (f : ExprFault) (ts : List Terminal) → FailsChain Or f 64 ts → IsRefused f ts
is_refused Syntax ts b = is_no_expression ts b
is_refused TooDeep ts b = is_too_deep ts b
is_refused Memory ts b = b

pub IfErr-weaker : {X E : Type 0} (r : Result X E) (P Q : E → Type 0) → ((e : E) → P e → Q e) → IfErr r P → IfErr r Q
IfErr-weaker (Ok x) P Q f h = tt
IfErr-weaker (Err e) P Q f h = f e h
