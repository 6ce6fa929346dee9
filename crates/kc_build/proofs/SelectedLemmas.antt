-- The lines that select and imply, entry by entry.
use Rattle.std.proofs.{Common.{Bool, List, None, Option, Some, [], ap, arith, cond, false, filter, length, map, refl, subst, suc, sym, true, zero, ℕ, ◌++◌, ◌+◌, ◌-◌, ◌<◌, ◌^◌, ◌||◌, ◌∙◌, ◌∷◌, ◌≡◌, ◌≤◌}, lemmas.{Grind.flat_map-append, List.{Elements.filter-append, append-nil, length-append, length-map}}}
use Rattle.std.specs.{List.{flat_map, list_any, slice_get}, Option.{is_some, option_and_then}, Prelude.option_map}
use Rattle.kc_language.specs.{Expansion.{defined_name, numbers}, Statements.Numbered, Symbols.{can_be_target, listed, target_of}}
use Rattle.kc_entries.specs.{Entries.{BeginsAt, IsEntryAt, start_at}, EntryStarts.start_of, StatementViews.head_view, declared.{entries.{Entries.Entries, Entry.Entry, EntryLines.EntryLines}, statement.Head.Head}}
use Rattle.kc_entries.specs.declared.statement.Head.TheVariants as head
use Rattle.kc_entries.proofs.{EntryLemmas.{front-is, starts-before, starts-within}, PlaceLemmas.{flat_map-next, length-numbers, there_in}}
use Rattle.kc_tree.specs.{EntryViews.{entry_count, entry_symbol, index_of, said_by, statements_in, statements_of}, Places.{IsPlace, effects_at, has_effect, has_effect_at, says}, declared.rows.{EntryPlace.EntryPlace, Selector.Selector, Symbol.Symbol}}
use Rattle.kc_tree.proofs.IndexLemmas.{attribute-there, entry-first, said-count, said-there}
use Rattle.kc_build.specs.{Limits.IsFew, SelectorRows.{AreLaid, AreTargetsBelow, effects_before}, SymbolRows.AreKnownRows}

-- No line yet.
pub none-laid : (es : Entries) (rows : List Symbol) (lines : List Selector) → AreKnownRows es rows → lines ≡ [] → AreLaid es [] (length rows) rows lines
none-laid es rows lines known none = rw none (record {
  pairs_are = refl;
  chained = λ j r w s h n. absurd cc;
  rows_are = λ i row h. let k = known i row h in record { symbol_type = k.symbol_type; choice = k.choice; first = k.first; last_select = k.last_select; last_imply = k.last_imply };
  same = refl;
})

-- Lists.
none-by : (q : ℕ → Bool) (n : ℕ) → ((j : ℕ) → q j ≡ false) → filter q (numbers n) ≡ []
none-by q zero h = refl
none-by q (suc n) h = filter-append q (numbers n) (n ∷ []) ∙ (λ i. none-by q n h i ++ cond (h n i) (n ∷ []) [])

filter-shorter : (q : ℕ → Bool) (xs : List ℕ) → length (filter q xs) ≤ length xs
filter-shorter q [] = omega arith
filter-shorter q (x ∷ xs) = by (q x) (filter-shorter q xs)
  where
    by : (b : Bool) → length (filter q xs) ≤ length xs → length (cond b (x ∷ filter q xs) (filter q xs)) ≤ suc (length xs)
    by true h = omega (arith, h)
    by false h = omega (arith, h)

no-config : (h : Head) → ((s : _) → h ≡ head.Config s → ⊥) → defined_name (head_view h) ≡ None
no-config (head.Config s) n = absurd (n s refl)
no-config _ n = refl

module _ (es : Entries) where
  abbrev Pair : Type 0
  Pair = ℕ × ℕ

  abbrev entry-there : (e : ℕ) → e < entry_count es → (x : Entry) × (slice_get es.first_lines.items e ≡ Some x)
  entry-there e h = there_in es.first_lines.items e h

  -- an entry that there is was read
  pub entry-read : (e : ℕ) → e < entry_count es → IsEntryAt es e None → ⊥
  entry-read e h none =
      let x = entry-there e h in
      let two : None ≡ Some (x.0) = entry-first es e None none ∙ x.1 in
      cc

  -- One entry more.
  pub laid-next : (i count : ℕ) {rows : List Symbol} {lines : List Selector} (more : List Pair) → effects_at es i ≡ more →
      AreLaid es (flat_map (effects_at es) (numbers i) ++ more) count rows lines → AreLaid es (flat_map (effects_at es) (numbers (i + 1))) count rows lines
  laid-next i count {rows} {lines} more e laid =
      subst (λ l. AreLaid es l count rows lines) (sym (flat_map-next (effects_at es) i ∙ ap (λ l. flat_map (effects_at es) (numbers i) ++ l) e)) laid

  pub laid-same : (i count : ℕ) {rows : List Symbol} {lines : List Selector} → effects_at es i ≡ [] →
      AreLaid es (flat_map (effects_at es) (numbers i)) count rows lines → AreLaid es (flat_map (effects_at es) (numbers (i + 1))) count rows lines
  laid-same i count {rows} {lines} e laid =
      laid-next i count [] e (subst (λ l. AreLaid es l count rows lines) (sym (append-nil (flat_map (effects_at es) (numbers i)))) laid)

  -- Which lines an entry gives.
  effects-other : (e : ℕ) → entry_symbol es e ≡ None → effects_at es e ≡ []
  effects-other e h = ap (λ o. cond (is_some o) (effects_before es e (length (said_by es e))) []) h

  effects-none : (e : ℕ) → ((j : ℕ) → has_effect_at es e j ≡ false) → effects_at es e ≡ []
  effects-none e h =
      ap (λ l. cond (is_some (entry_symbol es e)) (map (λ k. (suc e, suc (start_at es e + k))) l) []) (none-by (has_effect_at es e) (length (said_by es e)) h)
      ∙ by (is_some (entry_symbol es e))
    where
      by : (b : Bool) → cond {A = List Pair} b [] [] ≡ []
      by true = refl
      by false = refl

  none-said : (o : Option Numbered) (own : List Numbered) (j : ℕ) → says target_of own ≡ false → slice_get own j ≡ o → list_any (has_effect es) (listed o) ≡ false
  none-said None own j h q = refl
  none-said (Some s) (x ∷ own) zero h q =
      let same : x ≡ s = cc in
      let none : target_of s ≡ None = ap target_of (sym same) ∙ no-some (target_of x) (left-false _ _ h) in
      ap (λ t. list_any (λ u. can_be_target (statements_in es) (u.1)) (listed t) || false) none
    where
      no-some : {X : Type 0} (t : Option X) → is_some t ≡ false → t ≡ None
      no-some None g = refl
      no-some (Some u) g = absurd cc

      left-false : (a b : Bool) → (a || b) ≡ false → a ≡ false
      left-false false b g = refl
      left-false true b g = absurd cc
  none-said (Some s) (x ∷ own) (suc j) h q = none-said (Some s) own j (right-false _ _ h) q
    where
      right-false : (a b : Bool) → (a || b) ≡ false → b ≡ false
      right-false false b g = g
      right-false true b g = absurd cc
  none-said (Some s) [] j h q = absurd cc

  pub effects-unsaid : (e : ℕ) (p : EntryPlace) (places : List EntryPlace) → IsPlace es places e p → p.has_target ≡ false → effects_at es e ≡ []
  effects-unsaid e p places is none =
      effects-none e (λ j. none-said (slice_get (said_by es e) j) (said_by es e) j (sym is.has_target ∙ none) refl)

  module _ (e : ℕ) (own : EntryLines) (begins : BeginsAt es e own) where
    said-own : said_by es e ≡ statements_of own.attributes.now
    said-own = said-there es e own.first.now begins.first ∙ ap statements_of (sym begins.own)

    own-length : length (said_by es e) ≡ length own.attributes.now
    own-length = ap length said-own ∙ length-map own.attributes.now _

    symbol-here : (o : Option _) → defined_name (head_view own.first.now.head) ≡ o → entry_symbol es e ≡ o
    symbol-here o q = ap (λ (x : Option Entry). option_and_then defined_name (option_map (λ (y : Entry). head_view y.head) x)) begins.first ∙ q

    -- of a symbol; of another one
    pub effects-config : (s : _) → own.first.now.head ≡ head.Config s → effects_at es e ≡ effects_before es e (length own.attributes.now)
    effects-config s q =
        ap (λ o. cond (is_some o) (effects_before es e (length (said_by es e))) []) (symbol-here (Some s) (ap (λ h. defined_name (head_view h)) q))
        ∙ ap (effects_before es e) own-length

    pub effects-else : ((s : _) → own.first.now.head ≡ head.Config s → ⊥) → effects_at es e ≡ []
    effects-else n = effects-other e (symbol-here None (no-config own.first.now.head n))

    -- what the attributes select and imply has rows
    pub targets-there : (count : ℕ) → AreTargetsBelow count (statements_in es) → AreTargetsBelow count (statements_of own.attributes.now)
    targets-there count below j l t at says =
        let here : slice_get (said_by es e) j ≡ Some l = ap (λ r. slice_get r j) said-own ∙ at in
        below (suc (index_of es e) + j) l t (attribute-there es e j own.first.now begins.first (within (said_by es e) j l here) ∙ here) says
      where
        within : (xs : List Numbered) (k : ℕ) (x : Numbered) → slice_get xs k ≡ Some x → k < length xs
        within [] k x h = absurd cc
        within (y ∷ xs) zero x h = omega arith
        within (y ∷ xs) (suc k) x h = let r = within xs k x h in omega (arith, r)

    -- there is room for their numbers
    starts : start_at es e ≡ own.first.now.start
    starts = ap (λ l. start_of l (length es.attributes.items)) (front-is e es.first_lines.items own.first.now begins.first)

    own-end : start_at es (suc e) ≡ own.first.now.start + length own.attributes.now
    own-end =
        let count = said-count es e own.first.now begins.first in
        let up = starts-before e es.first_lines.items own.first.now (length es.attributes.items) es.in_order begins.first in
        omega (arith, count, up, own-length, starts)

    pub own-few : IsFew es → own.first.now.start + length own.attributes.now + 1 < 2 ^ 32
    own-few few =
        let within = starts-within (suc e) es.first_lines.items (length es.attributes.items) es.in_order in
        let bound = few.attributes in
        omega (arith, own-end, within, bound)

  -- so many lines at most before an entry
  effects-short : (e : ℕ) → length (effects_at es e) ≤ length (said_by es e)
  effects-short e = by (is_some (entry_symbol es e))
    where
      all : length (effects_before es e (length (said_by es e))) ≤ length (said_by es e)
      all =
          let a = length-map {B = Pair} (filter (has_effect_at es e) (numbers (length (said_by es e)))) (λ k. (suc e, suc (start_at es e + k))) in
          let b = filter-shorter (has_effect_at es e) (numbers (length (said_by es e))) in
          let c = length-numbers (length (said_by es e)) in
          omega (arith, a, b, c)

      by : (b : Bool) → length (cond b (effects_before es e (length (said_by es e))) []) ≤ length (said_by es e)
      by true = all
      by false = omega arith

  effects-few : (e : ℕ) → e ≤ entry_count es → length (flat_map (effects_at es) (numbers e)) ≤ start_at es e
  effects-few zero h = omega arith
  effects-few (suc e) h =
      let x = entry-there e (omega (arith, h)) in
      let before = effects-few e (omega (arith, h)) in
      let more = effects-short e in
      let count = said-count es e (x.0) (x.1) in
      let start : start_at es e ≡ (x.0).start = ap (λ l. start_of l (length es.attributes.items)) (front-is e es.first_lines.items (x.0) (x.1)) in
      let up = starts-before e es.first_lines.items (x.0) (length es.attributes.items) es.in_order (x.1) in
      let all : length (flat_map (effects_at es) (numbers (suc e))) ≡ length (flat_map (effects_at es) (numbers e)) + length (effects_at es e) =
      ap length (flat_map-append (effects_at es) (numbers e) (e ∷ []) ∙ ap (λ l. flat_map (effects_at es) (numbers e) ++ l) (append-nil (effects_at es e)))
      ∙ length-append (flat_map (effects_at es) (numbers e)) (effects_at es e) in
      omega (arith, before, more, count, start, up, all)

  pub lines-few : (e : ℕ) (own : EntryLines) (count : ℕ) (rows : List Symbol) (lines : List Selector) → IsFew es → BeginsAt es e own →
      AreLaid es (flat_map (effects_at es) (numbers e)) count rows lines → length lines + length own.attributes.now + 1 < 2 ^ 32
  lines-few e own count rows lines few begins laid =
      let same : length lines ≡ length (flat_map (effects_at es) (numbers e)) = sym (length-map lines _) ∙ ap length laid.pairs_are in
      let there = begins.there in
      let before = effects-few e (omega (arith, there)) in
      let start = starts e own begins in
      let end = own-few e own begins few in
      omega (arith, same, before, start, end)
