-- What the lines of entries have against them, entry by entry.
use Rattle.std.proofs.{Common.{List, None, Option, Some, [], ap, arith, cond, eq-eqb, false, filter, inl, length, map, nat_lt, not, refl, subst, suc, sym, true, ℕ, ◌&&◌, ◌+◌, ◌-◌, ◌<◌, ◌∙◌, ◌∷◌, ◌≡◌, ◌≤◌}, Math.Bool.or-false, lemmas.{Bool.Decides.nat_tests, List.{Sums.count_by-le-length, length-map}, Option.slice_get_within}}
use Rattle.std.specs.{List.{list_any, slice_get}, Option.{is_some, option_and_then}, Prelude.{count_by, option_map, ◌==◌}}
use Rattle.kc_language.specs.{Expansion.{defined_name, numbers}, Statements.{ChoiceLine, ConfigLine, EndChoiceLine, Located, Numbered}, Symbols.{begun, choice_number, enclosing_choice, is_first_definition, is_symbol_of, listed, symbol_at}, declared.expressions.SymId.SymId}
use Rattle.kc_entries.specs.{Entries.{BeginsAt, first_line, lines_from, lines_in, own_lines}, ListFacts.{AreBelow, AreChoicesApart}, PartsOfSymbols.{first_of, first_of_symbol}, StatementViews.{attribute_view, head_view}, declared.entries.{AttributeLine.AttributeLine, Entries.Entries, EntryLines.EntryLines}}
use Rattle.kc_entries.proofs.{FirstLemmas.{first-is, some_places}, PlaceLemmas.{count_next, drop-dropped, get-dropped, length-numbers, there_in}}
use Rattle.kc_read.proofs.MenuEntryLemmas.{entry_begins, entry_here}
use Rattle.kc_tree.specs.{EntryViews.{begins_choice, entry_count, entry_symbol, index_of, is_choice_line, said_by, statements_in, statements_of}, Stored.stored, declared.rows.Symbol.Symbol}
use Rattle.kc_tree.proofs.{EntryListLemmas.{choice-number, definitions-numbers, filter-before, no-name}, IndexLemmas.{attributes-is, head-is-none, head-there, index-first, index-next, lines-at, said-there, symbol-is}, ListLemmas.filter-below, ShownLemmas.{first-passing, some-map}}
use Rattle.kc_build.specs.{ChoicesPassed.{IsSummary, first_by, first_head, open_choice, passed}, Diagnosed.{AreLinesDiagnosed, IsDiagnosed}, Limits.IsFew, Nesting.AreBlocksClosed, Standing.turned_choice, SymbolRows.{AreKnownRows, IsEntrySummary}, declared.diagnostics.{ChoicesBefore.ChoicesBefore, Diagnostics.Diagnostics, EntrySummary.EntrySummary}}
use Rattle.kc_build.proofs.{DiagnosedLemmas.entry_diagnosed, OpenChoiceLemmas.{choice-last, choice-turned}, StandingLemmas.choice-behind, TypeLemmas.AreTyped}

-- The choices before an entry, one entry more.
passed-open : (s : Numbered) (c : ChoicesBefore) → (passed s c).is_open ≡ turned_choice s c.is_open
passed-open ChoiceLine c = refl
passed-open EndChoiceLine c = refl
passed-open _ c = refl

no-more : (n : ℕ) → n ≡ n + 0
no-more n = omega arith

passed-count : (s : Numbered) (c : ChoicesBefore) → (passed s c).count ≡ c.count + cond (is_choice_line (Some s)) 1 0
passed-count ChoiceLine c = refl
passed-count EndChoiceLine c = no-more c.count
passed-count _ c = no-more c.count

open-none : (c : ChoicesBefore) → c.is_open ≡ false → open_choice c ≡ None
open-none c e = ap (λ b. cond (b && nat_lt 0 c.count) (Some (c.count - 1)) None) e

open-some : (c : ChoicesBefore) (k : ℕ) → c.is_open ≡ true → suc k ≡ c.count → open_choice c ≡ Some k
open-some c k e n =
    let some : nat_lt 0 (suc k) ≡ true = grind (arith, nat_tests) in
    let same : suc k - 1 ≡ k = omega arith in
    (λ i. cond (e i && nat_lt 0 (sym n i)) (Some (sym n i - 1)) None)
    ∙ ap (λ b. cond b (Some (suc k - 1)) None) some ∙ ap Some same

-- what is known of the choices before an entry
pub record ArePassed (es : Entries) (e : ℕ) (c : ChoicesBefore) : Type 0 where
  pub within : e ≤ entry_count es
  pub count : c.count ≡ choice_number (statements_in es) (index_of es e)
  pub is_open : c.is_open ≡ is_some (enclosing_choice (statements_in es) (index_of es e))

module _ (es : Entries) (apart : AreChoicesApart (statements_in es)) where
  abbrev ss : List Numbered
  ss = statements_in es

  open-is : (e : ℕ) (c : ChoicesBefore) → index_of es e ≤ length ss → ArePassed es e c → open_choice c ≡ enclosing_choice ss (index_of es e)
  open-is e c l are = by (enclosing_choice ss (index_of es e)) refl
    where
      by : (o : Option ℕ) → enclosing_choice ss (index_of es e) ≡ o → open_choice c ≡ o
      by None q = open-none c (are.is_open ∙ ap is_some q)
      by (Some k) q = open-some c k (are.is_open ∙ ap is_some q) (choice-last ss apart (index_of es e) k l q ∙ sym are.count)

  module _ (e : ℕ) (x : EntryLines) (begins : BeginsAt es e x) where
    abbrev head : Numbered
    head = head_view x.first.now.head

    head-at : slice_get ss (index_of es e) ≡ Some head
    head-at = head-there es e x.first.now begins.first

    index-within : index_of es e < length ss
    index-within = slice_get_within ss (index_of es e) head head-at

    pub passed-next : (c : ChoicesBefore) → AreBlocksClosed ss → ArePassed es e c → ArePassed es (suc e) (passed head c)
    passed-next c closed are =
        let there = begins.there in
        let within = index-within in
        record {
          within = omega (arith, there);
          count = passed-count head c
              ∙ (λ i. (are.count ∙ choice-number es e (omega (arith, there))) i + cond (is_choice_line (Some head)) 1 0)
              ∙ ap (λ o. count_by (begins_choice es) (numbers e) + cond (is_choice_line o) 1 0) (sym (ap (option_map (λ y. head_view y.head)) begins.first))
              ∙ sym (count_next (begins_choice es) e)
              ∙ sym (choice-number es (suc e) (omega (arith, there)));
          is_open = passed-open head c
              ∙ ap (turned_choice head) are.is_open
              ∙ sym (choice-turned ss apart closed (index_of es e) (omega (arith, within)) head head-at)
              ∙ sym (ap is_some (choice-behind es e x.first.now begins.first));
        }

    -- The summary of the entry.
    module _ (symbols : List Symbol) (known : AreKnownRows es symbols) (below : AreBelow (length symbols) ss) where
      first-row : (s : SymId) (row : Symbol) → slice_get symbols s.0 ≡ Some row → entry_symbol es e ≡ Some s →
          first_by symbols (suc e) s ≡ not (some_places (filter (λ j. is_symbol_of s (entry_symbol es j)) (numbers e)))
      first-row s row h d =
          ap (λ o. list_any (λ (r : Symbol). r.first.0 == suc e) (listed o)) h
          ∙ or-false (row.first.0 == suc e)
          ∙ ap (λ n. n == suc e) ((known s.0 row h).first ∙ ap (λ xs. stored (first_of xs)) (definitions-numbers es s))
          ∙ first-passing (λ j. is_symbol_of s (entry_symbol es j)) e (entry_count es) begins.there (ap (is_symbol_of s) d ∙ eq-eqb s.0 s.0 refl)

      first-definition : (s : SymId) → symbol_at ss (index_of es e) ≡ Some s → first_by symbols (suc e) s ≡ is_first_definition ss (index_of es e) s
      first-definition s d =
          let row = there_in symbols s.0 (below (index_of es e) s d) in
          let there = begins.there in
          let within = index-within in
          first-row s (row.0) (row.1) (sym (symbol-is es e) ∙ d)
          ∙ sym (first-is ss (index_of es e) s (omega (arith, within))
          ∙ ap (λ xs. not (some_places xs)) (filter-before es (λ i. is_symbol_of s (symbol_at ss i)) (λ i t g a. ap (is_symbol_of s) (ap (option_and_then defined_name) g ∙ no-name t a)) e (omega (arith, there)))
          ∙ ap not (some-map (index_of es) (filter (λ j. is_symbol_of s (symbol_at ss (index_of es j))) (numbers e)))
          ∙ ap (λ xs. not (some_places xs)) (filter-below (λ j. is_symbol_of s (symbol_at ss (index_of es j))) (λ j. is_symbol_of s (entry_symbol es j)) e (λ j b. ap (is_symbol_of s) (symbol-is es j))))

      first-head : (s : Numbered) → slice_get ss (index_of es e) ≡ Some s → first_head symbols (suc e) s ≡ first_of_symbol ss (index_of es e) (symbol_at ss (index_of es e))
      first-head (ConfigLine t) h =
          let d : symbol_at ss (index_of es e) ≡ Some t = ap (option_and_then defined_name) h in
          first-definition t d ∙ ap (first_of_symbol ss (index_of es e)) (sym d)
      first-head _ h = ap (first_of_symbol ss (index_of es e)) (sym (ap (option_and_then defined_name) h))

      summary-is : (c : ChoicesBefore) (p : EntrySummary) → ArePassed es e c → IsSummary symbols (suc e) head c p → IsEntrySummary ss (index_of es e) p
      summary-is c p are is =
          let within = index-within in
          record {
            entry = is.entry ∙ ap (λ n. begun n head) are.count ∙ sym (sym (entry_here ss (index_of es e)) ∙ entry_begins ss (index_of es e) head head-at (head-is-none x.first.now.head));
            first = is.first ∙ first-head head head-at;
            within_choice = is.within_choice ∙ open-is e c (omega (arith, within)) are;
          }

      -- The lines of the entry are diagnosed.
      pub entry-next : (names : List (List ℕ)) (c : ChoicesBefore) (p : EntrySummary) (old new : Diagnostics) → ArePassed es e c → IsSummary symbols (suc e) head c p →
          IsDiagnosed names (lines_in es) (index_of es e) old →
          AreLinesDiagnosed names symbols p (first_line x.first.now) (own_lines x.first.now x.attributes.now) old new → IsDiagnosed names (lines_in es) (index_of es (suc e)) new
      entry-next names c p old new are is old_is looked =
          let own = own_lines x.first.now x.attributes.now in
          let same : map (λ (l : Located Numbered). l.statement) own ≡ said_by es e = said-own x.attributes.now ∙ sym (said-there es e x.first.now begins.first ∙ ap statements_of (sym begins.own)) in
          let count : length own ≡ length (said_by es e) = sym (length-map own (λ l. l.statement)) ∙ ap length same in
          let next : index_of es e + 1 + length own ≡ index_of es (suc e) = (let n = index-next es e x.first.now begins.first in omega (arith, n, count)) in
          let lines = lines-at es e ∙ begins.lines in
          subst (λ n. IsDiagnosed names (lines_in es) n new) next
          (entry_diagnosed names (lines_in es) symbols below typed p (index_of es e) (first_line x.first.now) own (lines_from es (e + 1)) old new
          (get-dropped (lines_in es) (index_of es e) _ _ lines) (drop-dropped (lines_in es) (index_of es e) _ _ lines) (attributes-is es e ∙ sym same) (inl (head-is-none x.first.now.head))
          (summary-is c p are is) old_is looked)
        where
          typed : AreTyped ss symbols
          typed i row h = let k = known i row h in record { symbol_type = k.symbol_type; choice = k.choice }

          said-own : (l : List AttributeLine) → map (λ (y : Located Numbered). y.statement) (own_lines x.first.now l) ≡ statements_of l
          said-own [] = refl
          said-own (a ∷ l) = ap (λ r. attribute_view a.attribute ∷ r) (said-own l)

-- The number of the next choice fits.
pub passed-few : (es : Entries) (e : ℕ) (c : ChoicesBefore) → IsFew es → ArePassed es e c → c.count + 1 < 4294967296
passed-few es e c few are =
    let count = are.count ∙ choice-number es e are.within in
    let most = count_by-le-length (begins_choice es) (numbers e) in
    let n = length-numbers e in
    let within = are.within in
    let bound = few.entries in
    omega (arith, count, most, n, within, bound)

-- No entry yet.
pub none-passed : (es : Entries) (c : ChoicesBefore) → c.count ≡ 0 → c.is_open ≡ false → ArePassed es 0 c
none-passed es c count none = record {
  within = omega arith;
  count = count ∙ ap (choice_number (statements_in es)) (sym (index-first es));
  is_open = none ∙ ap (λ n. is_some (enclosing_choice (statements_in es) n)) (sym (index-first es));
}
