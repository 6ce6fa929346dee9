-- The lines that select and imply symbols: one line more.
use Rattle.std.proofs.{Common.{Bool, List, None, Option, Some, [], ap, arith, cond, false, inl, inr, length, refl, subst, suc, sym, true, zero, ℕ, ◌&&◌, ◌++◌, ◌+◌, ◌<◌, ◌∙◌, ◌∷◌, ◌≡◌, ◌≢◌, ◌≤◌}, lemmas.{Bool.{eq-eqb, ne_eqb}, List.{Elements.filter-append, append-nil, length_push}, Option.slice_get_within}}
use Rattle.std.specs.{List.slice_get, Option.{is_some, option_and_then}, Prelude.{slice_set, ◌⊎◌}}
use Rattle.kc_language.specs.{Expansion.{last_of, numbers}, Expressions.{Form, same_symbol, symbol}, Statements.{ImplyLine, Numbered, SelectLine}, Symbols.{target_of, targets}, declared.{expressions.SymId.SymId, symbols.SelectOrImply.SelectOrImply}}
use Rattle.kc_language.specs.declared.symbols.SelectOrImply.TheVariants as word
use Rattle.kc_entries.specs.declared.entries.Entries.{Entries}
use Rattle.kc_entries.proofs.{ElementLemmas.same_is, EnclosingLemmas.last-snoc, MemberLemmas.below_or_past, PlaceLemmas.{end_get, get_front}}
use Rattle.kc_tree.specs.{Places.{AreChained, AreSymbolRows, IsSymbolRow, line_in, lines_before, names}, Stored.stored, declared.rows.{Selector.Selector, SelectorId.SelectorId, Symbol.Symbol}}
use Rattle.kc_tree.proofs.ListLemmas.{filter-below}
use Rattle.kc_build.specs.SelectorRows.{last_in, with_last}

-- Lists.
pub get-set : {X : Type 0} (xs : List X) (k i : ℕ) (x y : X) → slice_get (slice_set xs k x) i ≡ Some y → ((i ≡ k) × (y ≡ x)) ⊎ ((i ≢ k) × (slice_get xs i ≡ Some y))
get-set [] k i x y e = absurd cc
get-set (z ∷ xs) zero zero x y e = inl (refl, cc)
get-set (z ∷ xs) zero (suc i) x y e = inr (λ h. cc, e)
get-set (z ∷ xs) (suc k) zero x y e = inr (λ h. cc, e)
get-set (z ∷ xs) (suc k) (suc i) x y e = by (get-set xs k i x y e)
  where
    by : ((i ≡ k) × (y ≡ x)) ⊎ ((i ≢ k) × (slice_get xs i ≡ Some y)) → ((suc i ≡ suc k) × (y ≡ x)) ⊎ ((suc i ≢ suc k) × (slice_get xs i ≡ Some y))
    by (inl h) = inl (ap suc h.0, h.1)
    by (inr h) = inr (λ q. h.0 (omega (arith, q)), h.1)

last-more : (xs : List ℕ) (n : ℕ) (b : Bool) → last_of (xs ++ cond b (n ∷ []) []) ≡ cond b (Some n) (last_of xs)
last-more xs n true = last-snoc xs n
last-more xs n false = ap last_of (append-nil xs)

pub left-true : (a b : Bool) → (a && b) ≡ true → a ≡ true
left-true true b h = refl
left-true false b h = absurd cc

pub right-true : (a b : Bool) → (a && b) ≡ true → b ≡ true
right-true true b h = h
right-true false b h = absurd cc

-- Which lines name which symbols.
abbrev same_word : SelectOrImply → SelectOrImply → Bool
same_word word.Select word.Select = true
same_word word.Imply word.Imply = true
same_word word.Select word.Imply = false
same_word word.Imply word.Select = false

word-is : (w v : SelectOrImply) → same_word w v ≡ true → w ≡ v
word-is word.Select word.Select e = refl
word-is word.Imply word.Imply e = refl
word-is word.Select word.Imply e = absurd cc
word-is word.Imply word.Select e = absurd cc

abbrev pub Target : Type 0
Target = SelectOrImply × SymId × Option Form

some-if : (b : Bool) (v : Option Form) → is_some (cond b (Some v) None) ≡ b
some-if true v = refl
some-if false v = refl

named : (line : Numbered) (t : Target) (w : SelectOrImply) (s : SymId) → target_of line ≡ Some t → is_some (targets w s line) ≡ (same_word w (t.0) && same_symbol (t.1) s)
named (SelectLine u v) t word.Select s e = some-if (same_symbol u s) v ∙ ap (λ (o : Target). same_word word.Select (o.0) && same_symbol (o.1) s) (let h : ◌≡◌ {A = Target} (word.Select, u, v) t = cc in h)
named (SelectLine u v) t word.Imply s e = ap (λ (o : Target). same_word word.Imply (o.0) && same_symbol (o.1) s) (let h : ◌≡◌ {A = Target} (word.Select, u, v) t = cc in h)
named (ImplyLine u v) t word.Imply s e = some-if (same_symbol u s) v ∙ ap (λ (o : Target). same_word word.Imply (o.0) && same_symbol (o.1) s) (let h : ◌≡◌ {A = Target} (word.Imply, u, v) t = cc in h)
named (ImplyLine u v) t word.Select s e = ap (λ (o : Target). same_word word.Select (o.0) && same_symbol (o.1) s) (let h : ◌≡◌ {A = Target} (word.Imply, u, v) t = cc in h)
named _ t w s e = absurd cc

-- One line more behind these.
module _ (es : Entries) (lines : List Selector) (r : Selector) where
  before : (w : SelectOrImply) (s : SymId) (j : ℕ) → j < length lines → names es (lines ++ r ∷ []) w s j ≡ names es lines w s j
  before w s j h = ap (λ (o : Option Selector). is_some (option_and_then (targets w s) (option_and_then (line_in es) o))) (get_front lines (r ∷ []) j h)

  last : (w : SelectOrImply) (s : SymId) → names es (lines ++ r ∷ []) w s (length lines) ≡ is_some (option_and_then (targets w s) (line_in es r))
  last w s = ap (λ (o : Option Selector). is_some (option_and_then (targets w s) (option_and_then (line_in es) o))) (end_get lines r)

  lines-front : (w : SelectOrImply) (s : SymId) (j : ℕ) → j ≤ length lines → lines_before es (lines ++ r ∷ []) w s j ≡ lines_before es lines w s j
  lines-front w s j h = filter-below (names es (lines ++ r ∷ []) w s) (names es lines w s) j (λ i l. before w s i (omega (arith, h, l)))

  module _ (line : Numbered) (t : Target) (is : line_in es r ≡ Some line) (says : target_of line ≡ Some t) where
    abbrev names_it : SelectOrImply → SymId → Bool
    names_it w s = same_word w (t.0) && same_symbol (t.1) s

    last-named : (w : SelectOrImply) (s : SymId) → names es (lines ++ r ∷ []) w s (length lines) ≡ names_it w s
    last-named w s = last w s ∙ ap (λ (o : Option Numbered). is_some (option_and_then (targets w s) o)) is ∙ named line t w s says

    lines-all : (w : SelectOrImply) (s : SymId) →
        last_of (lines_before es (lines ++ r ∷ []) w s (length (lines ++ r ∷ []))) ≡ cond (names_it w s) (Some (length lines)) (last_of (lines_before es lines w s (length lines)))
    lines-all w s =
        let more : length (lines ++ r ∷ []) ≡ suc (length lines) = (let e = length_push lines r in omega (arith, e)) in
        ap (λ n. last_of (lines_before es (lines ++ r ∷ []) w s n)) more
        ∙ ap last_of (filter-append (names es (lines ++ r ∷ []) w s) (numbers (length lines)) (length lines ∷ []))
        ∙ ap (λ (l : List ℕ). last_of (l ++ cond (names es (lines ++ r ∷ []) w s (length lines)) (length lines ∷ []) [])) (lines-front w s (length lines) (omega arith))
        ∙ last-more (lines_before es lines w s (length lines)) (length lines) (names es (lines ++ r ∷ []) w s (length lines))
        ∙ ap (λ b. cond b (Some (length lines)) (last_of (lines_before es lines w s (length lines)))) (last-named w s)

    -- the row of a symbol leads to its last line of a kind
    abbrev Leads : List Selector → SelectOrImply → ℕ → Symbol → Type 0
    Leads ls w i row = (last_in w row).0 ≡ stored (last_of (lines_before es ls w (symbol i) (length ls)))

    leads-old : (w : SelectOrImply) (i : ℕ) (row : Symbol) → IsSymbolRow es lines i row → Leads lines w i row
    leads-old word.Select i row k = k.last_select
    leads-old word.Imply i row k = k.last_imply

    -- the row of the symbol that the line names, or of another one
    abbrev id : SelectorId
    id = record { 0 = suc (length lines) }

    last-changed : (w v : SelectOrImply) (row : Symbol) → last_in w (with_last v id row) ≡ cond (same_word w v) id (last_in w row)
    last-changed word.Select word.Select row = refl
    last-changed word.Imply word.Imply row = refl
    last-changed word.Select word.Imply row = refl
    last-changed word.Imply word.Select row = refl

    own-by : (b : Bool) (w : SelectOrImply) (row : Symbol) (o : Option ℕ) → (last_in w row).0 ≡ stored o → (cond b id (last_in w row)).0 ≡ stored (cond (b && true) (Some (length lines)) o)
    own-by true w row o e = refl
    own-by false w row o e = e

    same-here : (i : ℕ) → i ≡ t.1.0 → same_symbol (t.1) (symbol i) ≡ true
    same-here i e = ap (λ n. same_symbol (t.1) (symbol n)) e ∙ eq-eqb _ _ refl

    other-here : (i : ℕ) → i ≢ t.1.0 → same_symbol (t.1) (symbol i) ≡ false
    other-here i ne = ne_eqb (t.1.0) i (λ q. ne (sym q))

    leads-own : (w : SelectOrImply) (i : ℕ) (row : Symbol) → i ≡ t.1.0 → IsSymbolRow es lines i row → Leads (lines ++ r ∷ []) w i (with_last (t.0) id row)
    leads-own w i row e k =
        ap (λ (x : SelectorId). x.0) (last-changed w (t.0) row)
        ∙ own-by (same_word w (t.0)) w row (last_of (lines_before es lines w (symbol i) (length lines))) (leads-old w i row k)
        ∙ ap (λ b. stored (cond (same_word w (t.0) && b) (Some (length lines)) (last_of (lines_before es lines w (symbol i) (length lines))))) (sym (same-here i e))
        ∙ ap stored (sym (lines-all w (symbol i)))

    no-and : (b : Bool) → (b && false) ≡ false
    no-and true = refl
    no-and false = refl

    leads-other : (w : SelectOrImply) (i : ℕ) (row : Symbol) → i ≢ t.1.0 → IsSymbolRow es lines i row → Leads (lines ++ r ∷ []) w i row
    leads-other w i row ne k =
        leads-old w i row k
        ∙ ap (λ b. stored (cond b (Some (length lines)) (last_of (lines_before es lines w (symbol i) (length lines))))) (sym (ap (λ b. same_word w (t.0) && b) (other-here i ne) ∙ no-and (same_word w (t.0))))
        ∙ ap stored (sym (lines-all w (symbol i)))

    row-own : (i : ℕ) (row : Symbol) → i ≡ t.1.0 → IsSymbolRow es lines i row → IsSymbolRow es (lines ++ r ∷ []) i (with_last (t.0) id row)
    row-own i row e k = by (t.0) (leads-own word.Select i row e k) (leads-own word.Imply i row e k)
      where
        by : (v : SelectOrImply) → Leads (lines ++ r ∷ []) word.Select i (with_last v id row) → Leads (lines ++ r ∷ []) word.Imply i (with_last v id row) → IsSymbolRow es (lines ++ r ∷ []) i (with_last v id row)
        by word.Select a b = record { symbol_type = k.symbol_type; choice = k.choice; first = k.first; last_select = a; last_imply = b }
        by word.Imply a b = record { symbol_type = k.symbol_type; choice = k.choice; first = k.first; last_select = a; last_imply = b }

    row-other : (i : ℕ) (row : Symbol) → i ≢ t.1.0 → IsSymbolRow es lines i row → IsSymbolRow es (lines ++ r ∷ []) i row
    row-other i row ne k = record { symbol_type = k.symbol_type; choice = k.choice; first = k.first; last_select = leads-other word.Select i row ne k; last_imply = leads-other word.Imply i row ne k }

    pub rows-more : (rows : List Symbol) (row : Symbol) → AreSymbolRows es lines rows → slice_get rows (t.1.0) ≡ Some row →
        AreSymbolRows es (lines ++ r ∷ []) (slice_set rows (t.1.0) (with_last (t.0) id row))
    rows-more rows row are at i x e = by (get-set rows (t.1.0) i (with_last (t.0) id row) x e)
      where
        by : ((i ≡ t.1.0) × (x ≡ with_last (t.0) id row)) ⊎ ((i ≢ t.1.0) × (slice_get rows i ≡ Some x)) → IsSymbolRow es (lines ++ r ∷ []) i x
        by (inl h) = subst (IsSymbolRow es (lines ++ r ∷ []) i) (sym h.1) (row-own i row h.0 (are i row (ap (slice_get rows) h.0 ∙ at)))
        by (inr h) = row-other i x h.0 (are i x h.1)

    -- the new line leads to the one before it
    pub chained-more : (rows : List Symbol) (row : Symbol) → AreSymbolRows es lines rows → slice_get rows (t.1.0) ≡ Some row → r.next ≡ last_in (t.0) row → AreChained es lines → AreChained es (lines ++ r ∷ [])
    chained-more rows row are at next chained j x w s e q = by (below_or_past j (length lines))
      where
        by : (j < length lines) ⊎ (length lines ≤ j) → x.next.0 ≡ stored (last_of (lines_before es (lines ++ r ∷ []) w s j))
        by (inl h) =
            chained j x w s (sym (get_front lines (r ∷ []) j h) ∙ e) (sym (before w s j h) ∙ q)
            ∙ ap (λ l. stored (last_of l)) (sym (lines-front w s j (omega (arith, h))))
        by (inr h) =
            let within = slice_get_within (lines ++ r ∷ []) j x e in
            let more = length_push lines r in
            let all : length lines ≤ length lines = omega arith in
            let end : j ≡ length lines = omega (arith, h, within, more) in
            let same : x ≡ r = (let two : Some x ≡ Some r = sym e ∙ ap (slice_get (lines ++ r ∷ [])) end ∙ end_get lines r in cc) in
            let it : names_it w s ≡ true = sym (last-named w s) ∙ ap (names es (lines ++ r ∷ []) w s) (sym end) ∙ q in
            let word_is : t.0 ≡ w = sym (word-is w (t.0) (left-true _ _ it)) in
            let symbol_is : t.1 ≡ s = sym (same_is (t.1) s (right-true _ _ it)) in
            ap (λ (y : Selector). y.next.0) same
            ∙ ap (λ (y : SelectorId). y.0) next
            ∙ leads-old (t.0) (t.1.0) row (are (t.1.0) row at)
            ∙ (λ i. stored (last_of (lines_before es lines (word_is i) (symbol_is i) (length lines))))
            ∙ ap (λ l. stored (last_of l)) (sym (lines-front w s (length lines) all) ∙ ap (lines_before es (lines ++ r ∷ []) w s) (sym end))
