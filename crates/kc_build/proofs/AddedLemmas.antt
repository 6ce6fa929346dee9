-- The lines of an entry that select and imply: one attribute more.
use Rattle.std.proofs.{Common.{Bool, List, None, Option, Some, [], ap, append_assoc, arith, cond, drop, false, filter, inl, inr, length, map, refl, subst, suc, sym, take, true, zero, ℕ, ◌&&◌, ◌++◌, ◌+◌, ◌-◌, ◌||◌, ◌∙◌, ◌∷◌, ◌≡◌, ◌≢◌, ◌≤◌}, lemmas.{List.{Elements.filter-append, append-nil, length-set, length_push, map-append}, Option.slice_get-map}}
use Rattle.std.specs.{List.{list_any, slice_get}, Option.{is_none, option_and_then}, Prelude.{option_map, slice_set, ◌⊎◌}}
use Rattle.kc_language.specs.{Expansion.numbers, Statements.Numbered, Symbols.{can_be_target as may_be_target, is_selectable, listed, target_of}, declared.symbols.{ChoiceId.ChoiceId, SelectOrImply.SelectOrImply}}
use Rattle.kc_entries.specs.{Entries.{BeginsAt, start_at}, EntryStarts.start_of, StatementViews.attribute_view, declared.entries.{AttributeLine.AttributeLine, Entries.Entries, EntryLines.EntryLines}}
use Rattle.kc_entries.proofs.EntryLemmas.{front-is}
use Rattle.kc_tree.specs.{EntryViews.{attribute_at, said_by, statements_in, statements_of}, LineParts.target_said, Places.{IsSymbolRow, has_effect, has_effect_at, line_in, mode_view}, Stored.unstored, declared.{attributes.Target.Target as Line, rows.{AttributeId.AttributeId, EntryId.EntryId, Selector.Selector, Symbol.Symbol}}}
use Rattle.kc_tree.proofs.IndexLemmas.{said-there}
use Rattle.kc_build.specs.{SelectorRows.{AreLaid, IsAdded, effects_before, last_in, with_last}, SymbolRows.can_be_target}
use Rattle.kc_build.proofs.SelectorLemmas.{chained-more, get-set, rows-more}

-- Lists.
get-drop : {X : Type 0} (xs : List X) (n k : ℕ) → slice_get xs (n + k) ≡ slice_get (drop n xs) k
get-drop xs zero k = let z : 0 + k ≡ k = omega arith in ap (slice_get xs) z
get-drop [] (suc n) k = refl
get-drop (x ∷ xs) (suc n) k = let z : suc n + k ≡ suc (n + k) = omega arith in ap (slice_get (x ∷ xs)) z ∙ get-drop xs n k

get-take : {X : Type 0} (xs : List X) (n k : ℕ) (x : X) → slice_get (take n xs) k ≡ Some x → slice_get xs k ≡ Some x
get-take xs zero k x e = absurd cc
get-take [] (suc n) k x e = absurd cc
get-take (y ∷ xs) (suc n) zero x e = e
get-take (y ∷ xs) (suc n) (suc k) x e = get-take xs n k x e

map-cond : {X Y : Type 0} (f : X → Y) (b : Bool) (x : X) → map f (cond b (x ∷ []) []) ≡ cond b (f x ∷ []) []
map-cond f true x = refl
map-cond f false x = refl

or-false : (b : Bool) → (b || false) ≡ b
or-false true = refl
or-false false = refl

none-view : (c : Option ChoiceId) → is_none c ≡ is_none (mode_view c)
none-view None = refl
none-view (Some k) = refl

module _ (es : Entries) where
  abbrev ss : List Numbered
  ss = statements_in es

  -- whether a line has an effect, by the row of its symbol
  effect-known : (lines : List Selector) (i : ℕ) (row : Symbol) → IsSymbolRow es lines i row → can_be_target row ≡ may_be_target ss (record { 0 = i })
  effect-known lines i row k =
      ap (λ b. b && is_selectable row.symbol_type) (none-view row.choice)
      ∙ (λ j. is_none (k.choice j) && is_selectable (k.symbol_type j))

  effects-next : (e j : ℕ) → effects_before es e (suc j) ≡ effects_before es e j ++ cond (has_effect_at es e j) ((suc e, suc (start_at es e + j)) ∷ []) []
  effects-next e j =
      let at : ℕ → ℕ × ℕ = λ k. (suc e, suc (start_at es e + k)) in
      ap (map at) (filter-append (has_effect_at es e) (numbers j) (j ∷ []))
      ∙ map-append at (filter (has_effect_at es e) (numbers j)) (cond (has_effect_at es e j) (j ∷ []) [])
      ∙ ap (λ l. effects_before es e j ++ l) (map-cond at (has_effect_at es e j) j)

  -- One attribute of an entry.
  module _ (e : ℕ) (own : EntryLines) (begins : BeginsAt es e own) (j : ℕ) (a : AttributeLine) (at : slice_get own.attributes.now j ≡ Some a) where
    abbrev line : Numbered
    line = attribute_view a.attribute

    starts : start_at es e ≡ own.first.now.start
    starts = ap (λ l. start_of l (length es.attributes.items)) (front-is e es.first_lines.items own.first.now begins.first)

    said-here : slice_get (said_by es e) j ≡ Some line
    said-here =
        ap (λ l. slice_get l j) (said-there es e own.first.now begins.first ∙ ap statements_of (sym begins.own))
        ∙ slice_get-map (λ (x : AttributeLine). attribute_view x.attribute) own.attributes.now j ∙ ap (option_map (λ (x : AttributeLine). attribute_view x.attribute)) at

    attribute-here : attribute_at es (own.first.now.start + j) ≡ Some line
    attribute-here =
        let taken = get-take (drop own.first.now.start es.attributes.items) (start_at es (suc e) - own.first.now.start) j a (ap (λ l. slice_get l j) (sym begins.own) ∙ at) in
        ap (option_map (λ (x : AttributeLine). attribute_view x.attribute)) (get-drop es.attributes.items own.first.now.start j ∙ taken)

    effect-here : has_effect_at es e j ≡ list_any (λ t. may_be_target ss (t.1)) (listed (target_of line))
    effect-here = ap (λ o. list_any (has_effect es) (listed o)) said-here ∙ or-false (has_effect es line)

    module _ (pairs : List (ℕ × ℕ)) (count : ℕ) (rows : List Symbol) (lines : List Selector) (laid : AreLaid es (pairs ++ effects_before es e j) count rows lines) where
      -- it selects and implies nothing
      pub adds-nothing : target_of line ≡ None → AreLaid es (pairs ++ effects_before es e (suc j)) count rows lines
      adds-nothing none =
          let no : has_effect_at es e j ≡ false = effect-here ∙ ap (λ o. list_any (λ t. may_be_target ss (t.1)) (listed o)) none in
          let same : effects_before es e (suc j) ≡ effects_before es e j =
          effects-next e j ∙ ap (λ b. effects_before es e j ++ cond b ((suc e, suc (start_at es e + j)) ∷ []) []) no ∙ append-nil (effects_before es e j) in
          subst (λ l. AreLaid es (pairs ++ l) count rows lines) (sym same) laid

      -- it selects or implies a symbol
      pub adds-line : (entry : EntryId) (attribute : AttributeId) (target : Line) (new_rows : List Symbol) (new_lines : List Selector) → entry.0 ≡ suc e → attribute.0 ≡ suc (own.first.now.start + j) →
          target_of line ≡ Some (target_said target) → IsAdded entry attribute target.word target.symbol.0 rows lines new_rows new_lines →
          AreLaid es (pairs ++ effects_before es e (suc j)) count new_rows new_lines
      adds-line entry attribute target new_rows new_lines entry_is attribute_is says added = by (can_be_target added.row) refl
        where
          r : Selector
          r = record { entry = entry; attribute = attribute; next = last_in target.word added.row }

          known : can_be_target added.row ≡ may_be_target ss target.symbol
          known = effect-known lines target.symbol.0 added.row (laid.rows_are target.symbol.0 added.row added.at)

          effect : has_effect_at es e j ≡ may_be_target ss target.symbol
          effect = effect-here ∙ ap (λ o. list_any (λ u. may_be_target ss (u.1)) (listed o)) says ∙ or-false (may_be_target ss target.symbol)

          pairs-next : (b : Bool) → can_be_target added.row ≡ b →
              (pairs ++ effects_before es e j) ++ cond b ((entry.0, attribute.0) ∷ []) [] ≡ pairs ++ effects_before es e (suc j)
          pairs-next b q =
              append_assoc pairs (effects_before es e j) (cond b ((entry.0, attribute.0) ∷ []) [])
              ∙ (λ i. pairs ++ (effects_before es e j ++ cond ((sym q ∙ known ∙ sym effect) i) ((entry_is i, (attribute_is ∙ ap (λ n. suc (n + j)) (sym starts)) i) ∷ []) []))
              ∙ ap (λ l. pairs ++ l) (sym (effects-next e j))

          is : line_in es r ≡ Some line
          is = ap (λ n. option_and_then (attribute_at es) (unstored n)) attribute_is ∙ attribute-here

          same-length : (x : Symbol) → length (slice_set rows target.symbol.0 x) ≡ count
          same-length x = length-set rows target.symbol.0 x ∙ laid.same

          by : (b : Bool) → can_be_target added.row ≡ b → AreLaid es (pairs ++ effects_before es e (suc j)) count new_rows new_lines
          by true q =
              let lines_are : new_lines ≡ lines ++ r ∷ [] = added.lines_are ∙ ap (λ b. lines ++ cond b (r ∷ []) []) q in
              let rows_are : new_rows ≡ slice_set rows target.symbol.0 (with_last target.word (record { 0 = suc (length lines) }) added.row) =
              added.rows_are ∙ ap (λ b. slice_set rows target.symbol.0 (cond b (with_last target.word (record { 0 = suc (length lines) }) added.row) added.row)) q in
              rw (lines_are, rows_are) (record {
                pairs_are = map-append (λ (x : Selector). (x.entry.0, x.attribute.0)) lines (r ∷ []) ∙ ap (λ l. l ++ (entry.0, attribute.0) ∷ []) laid.pairs_are ∙ pairs-next true q;
                chained = chained-more es lines r line (target_said target) is says rows added.row laid.rows_are added.at refl laid.chained;
                rows_are = rows-more es lines r line (target_said target) is says rows added.row laid.rows_are added.at;
                same = same-length (with_last target.word (record { 0 = suc (length lines) }) added.row);
              })
          by false q =
              let lines_are : new_lines ≡ lines = added.lines_are ∙ ap (λ b. lines ++ cond b (r ∷ []) []) q ∙ append-nil lines in
              let rows_are : new_rows ≡ slice_set rows target.symbol.0 added.row =
              added.rows_are ∙ ap (λ b. slice_set rows target.symbol.0 (cond b (with_last target.word (record { 0 = suc (length lines) }) added.row) added.row)) q in
              rw (lines_are, rows_are) (record {
                pairs_are = laid.pairs_are ∙ sym (append-nil (pairs ++ effects_before es e j)) ∙ pairs-next false q;
                chained = laid.chained;
                rows_are = λ i x h. row-kept i x (get-set rows target.symbol.0 i added.row x h);
                same = same-length added.row;
              })
            where
              row-kept : (i : ℕ) (x : Symbol) → ((i ≡ target.symbol.0) × (x ≡ added.row)) ⊎ ((i ≢ target.symbol.0) × (slice_get rows i ≡ Some x)) → IsSymbolRow es lines i x
              row-kept i x (inl h) = laid.rows_are i x (ap (slice_get rows) h.0 ∙ added.at ∙ ap Some (sym h.1))
              row-kept i x (inr h) = laid.rows_are i x h.1

-- There are as many rows as before, and one line more at most.
module _ {entry : EntryId} {attribute : AttributeId} {w : SelectOrImply} {s : ℕ} {rows new_rows : List Symbol} {lines new_lines : List Selector} (added : IsAdded entry attribute w s rows lines new_rows new_lines) where
  pub same-rows : length new_rows ≡ length rows
  same-rows = ap length added.rows_are ∙ length-set rows s _

  pub more-lines : length new_lines ≤ length lines + 1
  more-lines = by (can_be_target added.row) (record { entry = entry; attribute = attribute; next = last_in w added.row }) added.lines_are
    where
      by : (b : Bool) (r : Selector) → new_lines ≡ lines ++ cond b (r ∷ []) [] → length new_lines ≤ length lines + 1
      by true r q = let e = ap length q ∙ length_push lines r in omega (arith, e)
      by false r q = let e = ap length (q ∙ append-nil lines) in omega (arith, e)
