-- A run has one outcome.
use Rattle.std.proofs.Common.{◌≡◌, ℕ, ◌<◌, List, [], ◌∷◌, ◌++◌, length, map, Option, Some, None, Result, Ok, Err, true, false, sym, ap, subst, ◌∙◌}
use Rattle.kc_language.specs.declared.expressions.SymId.{SymId}
use Rattle.kc_language.specs.Expansion.{AreOpened, Expands, ReadSoFar, Refused, Files, mentioned_names, numbered_lines}
use Rattle.kc_read.specs.Existing.{HasOneExpansion}
use Rattle.kc_language.specs.Statements.{statements}
use Rattle.kc_language.specs.Symbols.{TreeFacts, IsTreeOf, facts_with}
use Rattle.kc_entries.specs.PartsOfSymbols.{tree_of_log, unless_refused, whole_list_refusals}
use Rattle.kc_build.specs.Trees.{OneTree}
use Rattle.kc_language.specs.ConfigFile.{Places, place_at, ReadResult}
use Rattle.kc_language.specs.Expressions.{TextValue}
use Rattle.kc_language.specs.declared.expressions.SymbolType.TheVariants.{Undefined}
use Rattle.kc_order.specs.Laws.{NamedAreUnordered, OneNamedLoop}
use Rattle.kc_language.specs.Values.{Solves, equations, name_count}
use Rattle.kc_language.specs.Needs.{IsAccepted, needs, loop_text, IsLoopText, loop_refused}
use Rattle.kc_language.specs.Texts.{Solution, value_of}
use Rattle.kc_outcome.specs.Outcome.{Options, lead, refusal_line, Outcome, IsLenientOutcome, strictly, reported, lines_text, refused_outcome, read_of, root_file, IsRefusedTree, no_tree, looped, IsAcceptedTree, refused_tree, refused_name, unknown_name, unknown_symbol, unreadable_name, accepted_tree, IsOutcomeOfReading, long_line, whole}
use Rattle.kc_language.specs.Texts.{IsSolutionFor}
use Rattle.kc_conf.specs.PartsOfOutcome.{too_long_line, unknown_line, unreadable_line}
use Rattle.kc_conf.specs.PartsOfOutcome.{outcome_of}
use Rattle.kc_conf.specs.LawSteps.{OneAnswer, OneOutcome}
use Rattle.std.proofs.lemmas.List.{ext_get_or}

-- ---- trees

abbrev ok_or : {A E : Type 0} → A → Result A E → A
ok_or d (Ok x) = x
ok_or d (Err e) = d

abbrev err_or : {A E : Type 0} → E → Result A E → E
err_or d (Ok x) = d
err_or d (Err e) = e

one_loop_text : OneNamedLoop → (tree : TreeFacts) (a b : List ℕ) → IsLoopText tree a → IsLoopText tree b → a ≡ b
one_loop_text law tree a b (loop, named, is) (other, named', is') = is ∙ ap (loop_text tree) (law (map (λ (s : SymId). s.0) tree.defined) (needs tree) loop other named named') ∙ sym is'

-- a loop is named only where some symbol is unordered
never_both : NamedAreUnordered → (tree : TreeFacts) (text : List ℕ) → IsLoopText tree text → IsAccepted tree → ⊥
never_both stuck tree text (loop, named, is) accepted =
    let (s, below, unordered) = stuck (map (λ (s : SymId). s.0) tree.defined) (needs tree) loop named in
    absurd (let e : true ≡ false = sym unordered ∙ accepted s below in cc)

module _ (law : OneTree) (loops : OneNamedLoop) (stuck : NamedAreUnordered) (files : Files) (root : List ℕ) where
  same_tree : (tree other : TreeFacts) → IsTreeOf files root (Ok tree) → IsTreeOf files root (Ok other) → tree ≡ other
  same_tree tree other a b = ap (ok_or tree) (law files root (Ok tree) (Ok other) a b)

  never : (tree : TreeFacts) (r : Refused) → IsTreeOf files root (Ok tree) → IsTreeOf files root (Err r) → ⊥
  never tree r a b = absurd (let e : Ok tree ≡ Err r = law files root (Ok tree) (Err r) a b in cc)

  one_refusal_law : (r s : Refused) → IsRefusedTree files root r → IsRefusedTree files root s → r ≡ s
  one_refusal_law r s (no_tree a) (no_tree b) = ap (err_or r) (law files root (Err r) (Err s) a b)
  one_refusal_law r s (no_tree a) (looped tree text b named is) = absurd (never tree r b a)
  one_refusal_law r s (looped tree text a named is) (no_tree b) = absurd (never tree s a b)
  one_refusal_law r s (looped tree text a named is) (looped other text' b named' is') =
      let named_too = subst (λ t. IsLoopText t text) (same_tree tree other a b) named in
      is ∙ ap loop_refused (one_loop_text loops other text text' named_too named') ∙ sym is'

  one_accepted_law : (tree other : TreeFacts) → IsAcceptedTree files root tree → IsAcceptedTree files root other → tree ≡ other
  one_accepted_law tree other a b = same_tree tree other a.built b.built

  not_both_law : (r : Refused) (tree : TreeFacts) → IsRefusedTree files root r → IsAcceptedTree files root tree → ⊥
  not_both_law r tree (no_tree a) b = never tree r b.built a
  not_both_law r tree (looped other text a named is) b =
      never_both stuck tree text (subst (λ t. IsLoopText t text) (same_tree other tree a b.built) named) b.accepted

pub one_answer_law : HasOneExpansion → OneTree → OneNamedLoop → NamedAreUnordered → OneAnswer
one_answer_law has law loops stuck = record {
  one_refusal = one_refusal_law law loops stuck;
  one_accepted = one_accepted_law law loops stuck;
  not_both = not_both_law law loops stuck;
}

-- ---- solutions

same_record : (s t : Solution) → s.tree ≡ t.tree → s.places ≡ t.places → s.values ≡ t.values → s ≡ t
same_record s t a b c = λ i. record { tree = a i; places = b i; values = c i }

-- two solutions for the same places are one
pub one_solution : (tree : TreeFacts) (places : Places) (s t : Solution) → IsSolutionFor tree places s → IsSolutionFor tree places t → s ≡ t
one_solution tree places s t a b =
    let trees : t.tree ≡ s.tree = b.tree_is ∙ sym a.tree_is in
    let user : t.places ≡ s.places = b.places_are ∙ sym a.places_are in
    let counts : length t.values ≡ length s.values = b.solves.count ∙ ap name_count trees ∙ sym a.solves.count in
    let first : Solves (name_count s.tree) (equations s.tree (place_at t.places)) (value_of t) =
    subst (λ (f : TreeFacts). Solves (name_count f) (equations f (place_at t.places)) (value_of t)) trees b.solves.solves in
    let solves : Solves (name_count s.tree) (equations s.tree (place_at s.places)) (value_of t) =
    subst (λ (p : Places). Solves (name_count s.tree) (equations s.tree (place_at p)) (value_of t)) user first in
    let agree = a.solves.only (value_of t) solves in
    same_record s t (sym trees) (sym user) (sym (ext_get_or (TextValue Undefined []) t.values s.values counts (λ i lt. agree i (subst (λ n. i < n) (b.solves.count ∙ ap name_count trees) lt))))

-- ---- outcomes

abbrev some_or : {A : Type 0} → A → Option A → A
some_or d None = d
some_or d (Some x) = x

one_rest : (files : Files) (options : Options) (opened : List (List ℕ)) (tree : TreeFacts) (read : ReadResult) (a b : Outcome) →
    IsOutcomeOfReading files options opened tree read a → IsOutcomeOfReading files options opened tree read b → a ≡ b
one_rest files options opened tree read a b (long_line stop long is) (long_line other long' is') =
    is ∙ ap (λ s. reported read.warned (refused_outcome (too_long_line s))) (ap (some_or stop) (sym long ∙ long')) ∙ sym is'
one_rest files options opened tree read a b (long_line stop long is) (whole s none solves is') = absurd (let e : Some stop ≡ None = sym long ∙ none in cc)
one_rest files options opened tree read a b (whole s none solves is) (long_line stop long is') = absurd (let e : Some stop ≡ None = sym long ∙ none in cc)
one_rest files options opened tree read a b (whole s none solves is) (whole t none' solves' is') =
    is ∙ ap (λ x. reported read.warned (outcome_of files options opened read.input x)) (one_solution tree read.input.places s t solves solves') ∙ sym is'

-- over a refused tree it is the refusal
lenient_refused : OneAnswer → (files : Files) (options : Options) (opened all : List (List ℕ)) (a : Outcome) (r : Refused) → IsRefusedTree files (root_file options) r →
    IsLenientOutcome files options opened all a → a ≡ refused_outcome (refusal_line r)
lenient_refused law files options opened all a r why (refused_tree s first is) = is ∙ ap (λ x. refused_outcome (refusal_line x)) (law.one_refusal files (root_file options) s r first why)
lenient_refused law files options opened all a r why (refused_name tree name accepted unread is) = absurd (law.not_both files (root_file options) r tree why accepted)
lenient_refused law files options opened all a r why (unknown_symbol tree asked accepted read unknown is) = absurd (law.not_both files (root_file options) r tree why accepted)
lenient_refused law files options opened all a r why (accepted_tree tree accepted read known rest) = absurd (law.not_both files (root_file options) r tree why accepted)

module _ (law : OneAnswer) (files : Files) (options : Options) (opened all : List (List ℕ)) (tree : TreeFacts) (accepted : IsAcceptedTree files (root_file options) tree) where
  -- over an accepted tree: a name that make cannot read, a name that no symbol has, or what follows from the input files
  abbrev pub AreOf : Option (List ℕ) → Option (List ℕ) → Outcome → Type 0
  AreOf (Some name) unknown outcome = outcome ≡ refused_outcome (lead options ++ unreadable_line name)
  AreOf None (Some asked) outcome = outcome ≡ refused_outcome (lead options ++ unknown_line tree asked)
  AreOf None None outcome = (rest : Outcome) × IsOutcomeOfReading files options opened tree (read_of options tree all) rest
      × (outcome ≡ reported (lines_text tree.warnings) rest)

  pub lenient_is : (a : Outcome) → IsLenientOutcome files options opened all a → AreOf (unreadable_name options opened) (unknown_name options tree) a
  lenient_is a (refused_tree r why is) = absurd (law.not_both files (root_file options) r tree why accepted)
  lenient_is a (refused_name other name second unread is) = subst (λ u. AreOf u (unknown_name options tree) a) (sym unread) is
  lenient_is a (unknown_symbol other asked second read unknown is) =
      let same : other ≡ tree = law.one_accepted files (root_file options) other tree second accepted in
      subst (λ u. AreOf u (unknown_name options tree) a) (sym read)
      (subst (λ u. AreOf None u a) (sym unknown ∙ ap (unknown_name options) same)
      (is ∙ ap (λ (t : TreeFacts). refused_outcome (lead options ++ unknown_line t asked)) same))
  lenient_is a (accepted_tree other second read known (rest, part, is)) =
      let same : other ≡ tree = law.one_accepted files (root_file options) other tree second accepted in
      subst (λ u. AreOf u (unknown_name options tree) a) (sym read)
      (subst (λ u. AreOf None u a) (sym known ∙ ap (unknown_name options) same) (
        rest,
        subst (λ (t : TreeFacts). IsOutcomeOfReading files options opened t (read_of options t all) rest) same part,
        is ∙ ap (λ (t : TreeFacts). reported (lines_text t.warnings) rest) same,
      ))

  one_of : (unread unknown : Option (List ℕ)) (a b : Outcome) → AreOf unread unknown a → AreOf unread unknown b → a ≡ b
  one_of (Some name) unknown a b is is' = is ∙ sym is'
  one_of None (Some asked) a b is is' = is ∙ sym is'
  one_of None None a b (rest, part, is) (more, part', is') =
      is ∙ ap (reported (lines_text tree.warnings)) (one_rest files options opened tree (read_of options tree all) rest more part part') ∙ sym is'

  one_accepted_outcome : (a b : Outcome) → IsLenientOutcome files options opened all a → IsLenientOutcome files options opened all b → a ≡ b
  one_accepted_outcome a b first second = one_of (unreadable_name options opened) (unknown_name options tree) a b (lenient_is a first) (lenient_is b second)

-- an accepted tree is that of an expansion that is accepted, and has its lines
ok_if : (refusals : List Refused) (tree said : TreeFacts) → Ok tree ≡ unless_refused refusals said → tree ≡ said
ok_if [] tree said is = ap (ok_or tree) is
ok_if (r ∷ rs) tree said is = absurd (let clash : Ok tree ≡ Err r = is in cc)

pub lines_of_tree : (files : Files) (root : List ℕ) (tree : TreeFacts) → IsAcceptedTree files root tree →
    (log : ReadSoFar) × Expands files root (Ok log) × (tree.lines ≡ numbered_lines log.lines)
lines_of_tree files root tree accepted = by accepted.built.0 accepted.built.1 accepted.built.2
  where
    by : (e : Result ReadSoFar Refused) → Expands files root e → Ok tree ≡ tree_of_log e →
        (log : ReadSoFar) × Expands files root (Ok log) × (tree.lines ≡ numbered_lines log.lines)
    by (Ok log) expands is =
        let names = mentioned_names (statements log.lines) in
        let lines = numbered_lines log.lines in
        (log, expands, ap (λ (t : TreeFacts). t.lines) (ok_if (whole_list_refusals names lines) tree (facts_with names lines) is))
    by (Err r) expands is = absurd (let clash : Ok tree ≡ Err r = is in cc)

-- so the files that it opens are one list
pub one_opened : (files : Files) (root : List ℕ) (tree : TreeFacts) (opened others : List (List ℕ)) → IsAcceptedTree files root tree →
    AreOpened files root opened → AreOpened files root others → opened ≡ others
one_opened files root tree opened others accepted are are' =
    let (log, expands, is) = lines_of_tree files root tree accepted in are log expands ∙ sym (are' log expands)

pub one_outcome_law : OneAnswer → OneOutcome
one_outcome_law law files options all a b (lenient, opened, first, are, is) (other, others, second, are', is') = by first
  where
    accepts : (tree : TreeFacts) → IsAcceptedTree files (root_file options) tree → a ≡ b
    accepts tree accepted =
        let same : opened ≡ others = one_opened files (root_file options) tree opened others accepted are are' in
        let second' : IsLenientOutcome files options opened all other = subst (λ l. IsLenientOutcome files options l all other) (sym same) second in
        is ∙ ap (strictly options) (one_accepted_outcome law files options opened all tree accepted lenient other first second') ∙ sym is'

    by : IsLenientOutcome files options opened all lenient → a ≡ b
    by (refused_tree r why was) =
        is ∙ ap (strictly options) was ∙ ap (strictly options) (sym (lenient_refused law files options others all other r why second)) ∙ sym is'
    by (refused_name tree name accepted unread was) = accepts tree accepted
    by (unknown_symbol tree asked accepted read unknown was) = accepts tree accepted
    by (accepted_tree tree accepted read known part) = accepts tree accepted
