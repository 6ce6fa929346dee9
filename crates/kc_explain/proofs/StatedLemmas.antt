-- The facts about the defaults and ranges of entries, by their lines.
use Rattle.std.proofs.Common.{◌≡◌, ℕ, Bool, true, false, List, map, Option, Some, None, refl, ap, sym, ◌∙◌}
use Rattle.std.specs.Prelude.{if◌then◌else◌, is_some, option_map}
use Rattle.std.specs.Option.{option_and_then}
use Rattle.std.specs.List.{filter_map, flat_map, list_any}
use Rattle.kc_language.specs.ConfigFile.{UserInput}
use Rattle.kc_language.specs.Expressions.{Form, same_symbol}
use Rattle.kc_language.specs.Statements.{Located, Numbered}
use Rattle.kc_language.specs.Symbols.{Bounds, StatedDefault, definitions_of, listed, members_of, range_in, single_symbol, stated_default}
use Rattle.kc_language.specs.Texts.{Solution, known}
use Rattle.kc_language.specs.declared.expressions.{SymId.{SymId}, SymbolType.{SymbolType}, Tri.{Tri}}
use Rattle.kc_outcome.specs.Explanations as rules
use Rattle.kc_entries.specs.declared.entries.Entry.{Entry}
use Rattle.kc_tree.specs.EntryViews.{index_of}
use Rattle.kc_tree.specs.Layouts.{entry_at, index_at, is_member, statements_in}
use Rattle.kc_tree.specs.declared.layout.Layout.{Layout}
use Rattle.kc_tree.specs.declared.rows.EntryId.{EntryId}
use Rattle.kc_tree.proofs.ChoiceLemmas.{member-is}
use Rattle.kc_tree.proofs.ListLemmas.{flat-each}
use Rattle.kc_explain.specs.FactViews.{FactView, fact_in}
use Rattle.kc_explain.specs.LineViews.{AreAt, at_entry, lines_of, own_of}
use Rattle.kc_explain.specs.PartViews.{Said, parts_value, said_in, value_under}
use Rattle.kc_explain.specs.PartsOfExplanations.{dependency_parts}
use Rattle.kc_explain.specs.StatedFacts.{choice_told, counts, default_by, entry_told, line_by, member_by, range_by}
use Rattle.kc_explain.specs.declared.stated.Stated.TheVariants as stated
use Rattle.kc_explain.proofs.LineLemmas.{IsEntry, at-none, at-there, entry-there, over-entries, said-at}
use Rattle.kc_explain.proofs.PartLemmas.{line-value, map-flat, map-twice, own-none, through-map}

some-if : {X : Type 0} (b : Bool) (x : X) → is_some (if b then Some x else None) ≡ b
some-if true x = refl
some-if false x = refl

-- ---- Facts about the lines of one kind
module _ (l : Layout) (solution : Solution) (input : UserInput) {X : Type 0} (read : Numbered → Option X) (own : X → Option Form) (make : Said X → Tri → FactView)
    (F : rules.Said X → rules.Fact)
    (same : (d : rules.Said X) → fact_in (lines_of l) (F d) ≡ make (said_in (lines_of l) d) (rules.line_value (statements_in l) solution.tree input (known solution) own d)) where
  abbrev pub facts_at : ℕ → List FactView
  facts_at i = map (λ d. fact_in (lines_of l) (F d)) (rules.said_at (statements_in l) read i)

  abbrev given : Tri → Located Numbered → X → FactView
  given t o y = make (record { line = Some o; what = y }) (value_under solution t (own y))

  there : (at : ℕ) (x : Entry) (is : IsEntry l at x) →
      filter_map (line_by solution own make read (parts_value solution (flat_map (dependency_parts (lines_of l)) (listed (index_at l at))))) (own_of l at)
      ≡ flat_map facts_at (listed (index_at l at))
  there at x is =
      let t = parts_value solution (dependency_parts (lines_of l) (index_of l.entries is.number)) in
      ap (λ ps. filter_map (line_by solution own make read (parts_value solution ps)) (own_of l at)) (at-there l (dependency_parts (lines_of l)) at x is)
      ∙ sym (said-at read l at x is (λ d. fact_in (lines_of l) (F d)) (given (parts_value solution (dependency_parts (lines_of l) (index_of l.entries is.number))))
      (λ k o y h. same (record { entry = index_of l.entries is.number; at = k; what = y })
      ∙ (λ j. make (record { line = h j; what = y }) (sym (line-value l solution input own (record { entry = index_of l.entries is.number; at = k; what = y })) j))))
      ∙ sym (at-there l facts_at at x is)

  by : (at : ℕ) (o : Option Entry) → entry_at l at ≡ o →
      filter_map (line_by solution own make read (parts_value solution (flat_map (dependency_parts (lines_of l)) (listed (index_at l at))))) (own_of l at)
      ≡ flat_map facts_at (listed (index_at l at))
  by at None h =
      ap (filter_map (line_by solution own make read (parts_value solution (flat_map (dependency_parts (lines_of l)) (listed (index_at l at)))))) (sym (own-none l at (sym h)))
      ∙ sym (at-none l facts_at at h)
  by at (Some x) h = there at x (entry-there l at x h)

  pub entry-facts : (e : EntryId) →
      filter_map (line_by solution own make read (parts_value solution (at_entry l (dependency_parts (lines_of l)) e))) (own_of l e.0) ≡ at_entry l facts_at e
  entry-facts e = by e.0 (entry_at l e.0) refl

  -- those of a symbol, up to the first that counts
  pub facts-through : ((d : rules.Said X) → counts (fact_in (lines_of l) (F d)) ≡ rules.is_met (statements_in l) solution.tree input (known solution) own d) →
      (entries : List EntryId) (s : SymId) → AreAt l entries (definitions_of (statements_in l) s) →
      rules.through counts (flat_map (λ (e : EntryId). filter_map (line_by solution own make read (parts_value solution (at_entry l (dependency_parts (lines_of l)) e))) (own_of l e.0)) entries)
      ≡ map (fact_in (lines_of l)) (map F (rules.through (rules.is_met (statements_in l) solution.tree input (known solution) own) (rules.said_of (statements_in l) read s)))
  facts-through met entries s a =
      ap (rules.through counts)
      (flat-each (λ (e : EntryId). filter_map (line_by solution own make read (parts_value solution (at_entry l (dependency_parts (lines_of l)) e))) (own_of l e.0)) (at_entry l facts_at) entry-facts entries
      ∙ over-entries l facts_at entries (definitions_of (statements_in l) s) a
      ∙ sym (map-flat (λ d. fact_in (lines_of l) (F d)) (rules.said_at (statements_in l) read) (definitions_of (statements_in l) s)))
      ∙ through-map counts (rules.is_met (statements_in l) solution.tree input (known solution) own) (λ d. fact_in (lines_of l) (F d)) met (rules.said_of (statements_in l) read s)
      ∙ map-twice (fact_in (lines_of l)) F (rules.through (rules.is_met (statements_in l) solution.tree input (known solution) own) (rules.said_of (statements_in l) read s))

-- ---- Defaults, ranges, and defaults of choices
module _ (l : Layout) (solution : Solution) (input : UserInput) where
  pub defaults-are : (kind : SymbolType) (entries : List EntryId) (s : SymId) → AreAt l entries (definitions_of (statements_in l) s) →
      rules.through counts (flat_map (entry_told l solution (stated.Defaults kind)) entries)
      ≡ map (fact_in (lines_of l)) (rules.default_facts (statements_in l) solution.tree input (known solution) s kind)
  defaults-are kind entries s a =
      facts-through l solution input stated_default (λ (d : StatedDefault). d.when) (default_by solution kind) (rules.default_fact (statements_in l) solution.tree input (known solution) kind) (λ d. refl)
      (λ d. some-if (rules.is_met (statements_in l) solution.tree input (known solution) (λ (x : StatedDefault). x.when) d) (rules.default_given solution.tree (known solution) kind (d.what).value)) entries s a

  pub ranges-are : (kind : SymbolType) (entries : List EntryId) (s : SymId) → AreAt l entries (definitions_of (statements_in l) s) →
      rules.through counts (flat_map (entry_told l solution (stated.Ranges kind)) entries)
      ≡ map (fact_in (lines_of l)) (rules.range_facts (statements_in l) solution.tree input (known solution) s kind)
  ranges-are kind entries s a =
      facts-through l solution input range_in (λ (r : Bounds × Option Form). r.1) (range_by solution kind) (rules.range_fact (statements_in l) solution.tree input (known solution) kind) (λ d. refl)
      (λ d. some-if (rules.is_met (statements_in l) solution.tree input (known solution) (λ (r : Bounds × Option Form). r.1) d) (rules.bound_texts solution.tree (known solution) kind (d.what).0)) entries s a

  -- a default of a choice
  named-is : (k : ℕ) (t : Tri) (o : Located Numbered) →
      choice_told l solution k t o ≡ line_by solution (λ (d : SymId × Option Form). d.1) (member_by solution) (rules.default_member (members_of (statements_in l) k)) t o
  named-is k t o = by-default (stated_default o.statement)
    where
      by-member : (d : StatedDefault) (m : SymId) (b c : Bool) → b ≡ c →
          option_and_then (λ n. option_map (λ (x : SymId × Option Form). member_by solution (record { line = Some o; what = x }) (value_under solution t x.1))
          (option_map (λ (g : StatedDefault). (n, g.when)) (Some d))) (if b then Some m else None)
          ≡ option_map (λ (x : SymId × Option Form). member_by solution (record { line = Some o; what = x }) (value_under solution t x.1)) (if c then Some (m, d.when) else None)
      by-member d m true true e = refl
      by-member d m false false e = refl
      by-member d m true false e = absurd cc
      by-member d m false true e = absurd cc

      by-symbol : (d : StatedDefault) (s : Option SymId) →
          option_and_then (λ n. option_map (λ (x : SymId × Option Form). member_by solution (record { line = Some o; what = x }) (value_under solution t x.1))
          (option_map (λ (g : StatedDefault). (n, g.when)) (Some d))) (option_and_then (λ m. if is_member l k m then Some m else None) s)
          ≡ option_map (λ (x : SymId × Option Form). member_by solution (record { line = Some o; what = x }) (value_under solution t x.1))
          (option_and_then (λ m. if list_any (same_symbol m) (members_of (statements_in l) k) then Some (m, d.when) else None) s)
      by-symbol d None = refl
      by-symbol d (Some m) = by-member d m (is_member l k m) (list_any (same_symbol m) (members_of (statements_in l) k)) (member-is l k m)

      by-default : (g : Option StatedDefault) →
          option_and_then (λ n. option_map (λ (x : SymId × Option Form). member_by solution (record { line = Some o; what = x }) (value_under solution t x.1))
          (option_map (λ (d : StatedDefault). (n, d.when)) g)) (option_and_then (λ m. if is_member l k m then Some m else None) (option_and_then (λ (d : StatedDefault). single_symbol d.value) g))
          ≡ option_map (λ (x : SymId × Option Form). member_by solution (record { line = Some o; what = x }) (value_under solution t x.1))
          (option_and_then (λ (d : StatedDefault). option_and_then (λ m. if list_any (same_symbol m) (members_of (statements_in l) k) then Some (m, d.when) else None) (single_symbol d.value)) g)
      by-default None = refl
      by-default (Some d) = by-symbol d (single_symbol d.value)

  pub members-are : (k : ℕ) (e : EntryId) → entry_told l solution (stated.Members (record { 0 = k })) e
      ≡ at_entry l (λ i. map (λ d. fact_in (lines_of l) (rules.member_default_fact (statements_in l) solution.tree input (known solution) d))
      (rules.said_at (statements_in l) (rules.default_member (members_of (statements_in l) k)) i)) e
  members-are k e =
      let t = parts_value solution (at_entry l (dependency_parts (lines_of l)) e) in
      (λ j. filter_map (λ o. named-is k (parts_value solution (at_entry l (dependency_parts (lines_of l)) e)) o j) (own_of l e.0))
      ∙ entry-facts l solution input (rules.default_member (members_of (statements_in l) k)) (λ (d : SymId × Option Form). d.1) (member_by solution)
      (rules.member_default_fact (statements_in l) solution.tree input (known solution)) (λ d. refl) e
