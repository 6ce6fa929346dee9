-- For proofs: What holds a symbol down, and what is reached from it.
use Rattle.std.proofs.Common.{◌≡◌, ◌<◌, ◌+◌, ◌-◌, ℕ, zero, suc, List, [], ◌∷◌, ◌++◌, length, take, drop, get_or, map, Option, Some, None, refl, ap, sym, ◌∙◌, append-nil, append_assoc, arith}
use Rattle.std.specs.List.{flat_map}
use Rattle.std.proofs.Math.Seq.{drop-append_seam}
use Rattle.std.proofs.lemmas.List.{take_more}
use Rattle.kc_expr.specs.PartsOfSymbols.{added}
use Rattle.kc_explain.specs.FactViews.{FactView, fact_in}
use Rattle.kc_explain.specs.Holding.{all_worth_names, choice_names, names, wider, worth_names}
use Rattle.kc_explain.specs.LineViews.{AreAt, at_entry, lines_of, own_of}
use Rattle.kc_explain.specs.PartViews.{Part, Said, part_in, said_in, said_of, worth_parts}
use Rattle.kc_explain.specs.PartsOfExplanations.{dependency_parts, menus_parts}
use Rattle.kc_explain.proofs.LineLemmas.{over-entries}
use Rattle.kc_explain.proofs.PartLemmas.{at-located, prompt-given, shown-located}
use Rattle.kc_language.specs.ConfigFile.{UserInput}
use Rattle.kc_language.specs.Expansion.{last_of}
use Rattle.kc_language.specs.Statements.{InputPrompt, Located, Numbered, statements}
use Rattle.kc_language.specs.Expressions.{Form}
use Rattle.kc_language.specs.Symbols.{all_added, listed, prompt_of}
use Rattle.kc_language.specs.Texts.{Solution, known}
use Rattle.kc_language.specs.declared.expressions.SymId.{SymId}
use Rattle.kc_outcome.specs.Explanations as rules
use Rattle.kc_tree.specs.Layouts.{index_at, statements_in}
use Rattle.kc_tree.specs.declared.layout.Layout.{Layout}
use Rattle.kc_tree.specs.declared.rows.EntryId.{EntryId}
use Rattle.kc_tree.proofs.ListLemmas.{flat-each, flat-map}

-- ---- symbols that are added
all_added-snoc : (ids xs : List SymId) (x : SymId) → all_added ids (xs ++ x ∷ []) ≡ added (all_added ids xs) x
all_added-snoc ids [] x = refl
all_added-snoc ids (y ∷ xs) x = all_added-snoc (added ids y) xs x

pub added_next : (start old new xs : List SymId) (i : ℕ) → i < length xs → old ≡ all_added start (take i xs) →
    new ≡ added old (get_or xs i (record { 0 = 0 })) → new ≡ all_added start (take (i + 1) xs)
added_next start old new xs i within so is =
    let none : SymId = record { 0 = 0 } in
    let id : SymId = get_or xs i none in
    is ∙ ap (λ (l : List SymId). added l id) so ∙ sym (all_added-snoc start (take i xs) id)
    ∙ ap (all_added start) (sym (take_more xs i none within))

-- ---- what facts name
module _ (lines : List (Located Numbered)) (solution : Solution) where
  pub names_in : (f : rules.Fact) → names lines solution (fact_in lines f) ≡ rules.names_of_fact (statements lines) solution.tree (known solution) f
  names_in (rules.PartIs p t) = refl
  names_in (rules.DefaultIs kind d t given) = refl
  names_in (rules.RangeIs kind r t bounds) = refl
  names_in (rules.MemberDefaultIs d t u) = refl
  names_in _ = refl

  pub holders-are : (input : UserInput) (s : SymId) (fs : List FactView) →
      fs ≡ map (fact_in lines) (rules.facts_of (statements lines) solution.tree input (known solution) s) →
      flat_map (names lines solution) fs ≡ rules.holders (statements lines) solution.tree input (known solution) s
  holders-are input s fs h =
      ap (flat_map (names lines solution)) h
      ∙ flat-map (names lines solution) (fact_in lines) (rules.facts_of (statements lines) solution.tree input (known solution) s)
      ∙ flat-each (λ f. names lines solution (fact_in lines f)) (rules.names_of_fact (statements lines) solution.tree (known solution)) names_in
      (rules.facts_of (statements lines) solution.tree input (known solution) s)

-- the same lines, given in two ways
pub held-are : (lines lines' : List (Located Numbered)) (solution : Solution) (input : UserInput) (s : SymId) (fs : List FactView) → lines ≡ lines' →
    fs ≡ map (fact_in lines') (rules.facts_of (statements lines') solution.tree input (known solution) s) →
    flat_map (names lines solution) fs ≡ rules.holders (statements lines') solution.tree input (known solution) s
held-are lines lines' solution input s fs e h = ap (λ ls. flat_map (names ls solution) fs) e ∙ holders-are lines' solution input s fs h

-- ---- what holds a choice down
module _ (l : Layout) (solution : Solution) where
  abbrev worth_of : rules.ConditionPart → List SymId
  worth_of p = rules.worth_names (statements_in l) solution.tree (known solution) p

  worth-as : (q : rules.ConditionPart) → worth_names solution (part_in (lines_of l) q).asks ≡ worth_of q
  worth-as q = by q.asks
    where
      by : (asks : rules.Asked) → worth_names solution asks ≡ worth_of (record { at = q.at; asks = asks })
      by (rules.Worth e) = sym (append-nil _)
      by (rules.ModeOf k) = refl

  worth-shown : (q : rules.Said (InputPrompt Form)) → flat_map worth_of (rules.shown_parts (statements_in l) q)
      ≡ all_worth_names solution (menus_parts (lines_of l) q.entry ++ worth_parts (said_in (lines_of l) q).line ((said_in (lines_of l) q).what).when)
  worth-shown q =
      sym (flat-map (λ (p : Part). worth_names solution p.asks) (part_in (lines_of l)) (rules.shown_parts (statements_in l) q)
      ∙ flat-each (λ p. worth_names solution (part_in (lines_of l) p).asks) worth_of worth-as (rules.shown_parts (statements_in l) q))
      ∙ ap (all_worth_names solution) (shown-located l q)

  abbrev shown_worth : List Part → List Part → Said (InputPrompt Form) → List SymId
  shown_worth depends menus p = all_worth_names solution (menus ++ worth_parts p.line (p.what).when)

  pub choice-names : (e : EntryId) (o : Option (Said (InputPrompt Form))) (all first new : List SymId) (parts : List Part) → parts ≡ at_entry l (dependency_parts (lines_of l)) e →
      first ≡ all ++ all_worth_names solution parts → o ≡ last_of (said_of prompt_of (own_of l e.0)) →
      new ≡ first ++ flat_map (λ p. all_worth_names solution (at_entry l (menus_parts (lines_of l)) e ++ worth_parts p.line (p.what).when)) (listed o) →
      new ≡ all ++ at_entry l (choice_names (lines_of l) solution) e
  choice-names e o all first new parts p f h n =
      let prompts : ℕ → List SymId = λ j. flat_map (λ q. flat_map worth_of (rules.shown_parts (statements_in l) q)) (rules.prompt_lines (statements_in l) (j ∷ [])) in
      let depends : ℕ → List SymId = λ j. flat_map worth_of (rules.dependency_parts (statements_in l) j) in
      let shown : List SymId = flat_map (λ p. all_worth_names solution (at_entry l (menus_parts (lines_of l)) e ++ worth_parts p.line (p.what).when)) (listed o) in
      n ∙ ap (λ r. r ++ shown) (f ∙ ap (λ r. all ++ all_worth_names solution r) p) ∙ append_assoc all (all_worth_names solution (at_entry l (dependency_parts (lines_of l)) e)) shown
      ∙ ap (λ r. all ++ r) ((λ j. at-located l (λ (q : Part). worth_names solution q.asks) worth_of worth-as (rules.dependency_parts (statements_in l)) (index_at l e.0) j
      ++ prompt-given l shown_worth (λ q. flat_map worth_of (rules.shown_parts (statements_in l) q)) worth-shown e.0 o h j)
      ∙ both depends prompts (index_at l e.0))
    where
      both : (f g : ℕ → List SymId) (i : Option ℕ) → flat_map f (listed i) ++ flat_map g (listed i) ≡ flat_map (λ j. f j ++ g j) (listed i)
      both f g None = refl
      both f g (Some j) = (λ k. append-nil (f j) k ++ append-nil (g j) k) ∙ sym (append-nil (f j ++ g j))

  pub mode-some : (k : ℕ) (e : EntryId) (all new : List SymId) → AreAt l (e ∷ []) (rules.choice_entry (statements_in l) k) → new ≡ all ++ at_entry l (choice_names (lines_of l) solution) e →
      new ≡ all ++ rules.mode_names (statements_in l) solution.tree (known solution) k
  mode-some k e all new a n =
      n ∙ ap (λ r. all ++ r) (sym (append-nil (at_entry l (choice_names (lines_of l) solution) e))
      ∙ over-entries l (choice_names (lines_of l) solution) (e ∷ []) (rules.choice_entry (statements_in l) k) a)

  pub mode-none : (k : ℕ) (all : List SymId) → AreAt l [] (rules.choice_entry (statements_in l) k) → all ≡ all ++ rules.mode_names (statements_in l) solution.tree (known solution) k
  mode-none k all a = sym (append-nil all) ∙ ap (λ r. all ++ r) (over-entries l (choice_names (lines_of l) solution) [] (rules.choice_entry (statements_in l) k) a)

-- ---- what is reached
pub drop-all : {A : Type 0} (xs : List A) → drop (length xs) xs ≡ []
drop-all [] = refl
drop-all (x ∷ xs) = drop-all xs

module _ (input : UserInput) (solution : Solution) where
  -- with nothing in front no step changes anything
  reached_end : (n : ℕ) (seen : List SymId) → rules.reached input solution n seen [] ≡ seen
  reached_end zero seen = refl
  reached_end (suc n) seen = ap (rules.reached input solution n seen) (drop-all seen) ∙ reached_end n seen

  -- the step of the loop, and its ends
  next-of : (n : ℕ) (seen next wide : List SymId) → wide ≡ seen ++ next →
      rules.reached input solution n wide (drop (length seen) wide) ≡ rules.reached input solution n wide next
  next-of n seen next wide same =
      ap (rules.reached input solution n wide) (ap (drop (length seen)) same ∙ drop-append_seam seen next)

  pub reached_next : (n : ℕ) (seen front wide next : List SymId) → 0 < n → wide ≡ wider input solution seen front → wide ≡ seen ++ next →
      rules.reached input solution (n - 1) wide next ≡ rules.reached input solution n seen front
  reached_next zero seen front wide next some is same = absurd (omega arith)
  reached_next (suc n) seen front wide next some is same =
      let less : suc n - 1 ≡ n = omega arith in
      ap (λ (k : ℕ). rules.reached input solution k wide next) less ∙ sym (next-of n seen next wide same)
      ∙ ap (λ (more : List SymId). rules.reached input solution n more (drop (length seen) more)) is

  pub reached_stops : (n : ℕ) (seen front : List SymId) → length front ≡ 0 → rules.reached input solution n seen front ≡ seen
  reached_stops n seen [] none = reached_end n seen
  reached_stops n seen (x ∷ front) none = absurd (let h : suc (length front) ≡ 0 = none in omega arith)
