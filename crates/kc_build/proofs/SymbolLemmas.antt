-- The rows of symbols, one definition more in front of the others; and one member more.
use Rattle.std.proofs.{Common.{Bool, List, None, Option, Some, [], add-one, ap, arith, cond, false, filter, get_or, inl, inr, length, refl, slice_set, suc, sym, take, true, ℕ, ◌++◌, ◌+◌, ◌-◌, ◌<◌, ◌||◌, ◌∙◌, ◌∷◌, ◌≡◌, ◌≤◌}, Math.Bool.or-false, lemmas.{Bool.{eq-eqb, eqb-true, false≢true, ne_eqb}, List.{Elements.{filter-append, filter_map-append}, Folds.list_any-append, take_more}, Option.{get_or_from_slice_get, slice_get-get_or, slice_get_within}}}
use Rattle.std.specs.{List.{filter_map, flat_map, list_any, slice_get}, Option.{option_or, unwrap_or}, Prelude.{option_map, ◌==◌, ◌⊎◌}}
use Rattle.kc_language.specs.{Expansion.{defined_name, numbers}, Expressions.{same_symbol, symbol}, Statements.Numbered, Symbols.{is_symbol_of, listed, stated_type}, declared.{expressions.{SymId.SymId, SymbolType.SymbolType}, symbols.ChoiceId.ChoiceId}}
use Rattle.kc_language.specs.declared.expressions.SymbolType.TheVariants as symbol_type
use Rattle.kc_entries.specs.{Entries.BeginsAt, ListFacts.AreBelow, PartsOfSymbols.first_of, StatementViews.head_view, declared.{entries.{Entries.Entries, EntryLines.EntryLines}, statement.Head.Head}}
use Rattle.kc_entries.specs.declared.statement.Head.TheVariants as head
use Rattle.kc_entries.proofs.{EntryLemmas.take-whole, ListLemmas.first_of-append, MemberLemmas.below_or_past}
use Rattle.kc_tree.specs.{EntryViews.{definitions_from, entry_count, entry_symbol, index_of, said_by, statements_in}, Stored.stored, declared.rows.{Choice.Choice, EntryId.EntryId, EntryPlace.EntryPlace, Symbol.Symbol}}
use Rattle.kc_tree.proofs.{IndexLemmas.symbol-is, WalkLemmas.{rest-skip, rest-step}}
use Rattle.kc_build.specs.SymbolsFound.{AreLinkedFrom, AreMembersThere, AreRowsFrom, as_member, bool_without, choice_before, lists, row_from, type_from, unknown, with_definition}
use Rattle.kc_build.proofs.{ChangeLemmas.{length-set, set_here, set_other}, StandingLemmas.symbol-said}

unwrap-or : {X : Type 0} (a b : Option X) (d : X) → unwrap_or (option_or a b) d ≡ unwrap_or a (unwrap_or b d)
unwrap-or None b d = refl
unwrap-or (Some x) b d = refl

there-or : (n k : ℕ) → (n ≡ k) ⊎ (n ≡ k → ⊥)
there-or n k = by (n == k) refl
  where
    by : (b : Bool) → (n == k) ≡ b → (n ≡ k) ⊎ (n ≡ k → ⊥)
    by true e = inl (eqb-true n k e)
    by false e = inr (λ q. absurd (false≢true (sym e ∙ eq-eqb n k q)))

module _ (es : Entries) where
  -- what definitions say of a symbol
  abbrev row_by : List ℕ → Symbol
  row_by ds = record unknown {
    symbol_type = unwrap_or (first_of (filter_map stated_type (flat_map (said_by es) ds))) symbol_type.Undefined;
    first = record { 0 = stored (first_of ds) };
  }

  abbrev passes : SymId → ℕ → Bool
  passes s k = is_symbol_of s (entry_symbol es k)

  row-other : (i s : ℕ) → i < entry_count es → passes (symbol s) i ≡ false → row_from es (suc i) s ≡ row_from es i s
  row-other i s h e = ap row_by (sym (rest-skip (passes (symbol s)) (entry_count es) i h e))

  row-same : (i s : ℕ) (at : EntryId) → i < entry_count es → at.0 ≡ suc i → passes (symbol s) i ≡ true →
      with_definition at (first_of (filter_map stated_type (said_by es i))) (row_from es (suc i) s) ≡ row_from es i s
  row-same i s at h is e =
      let ds = definitions_from es (symbol s) (suc i) in
      let own = said_by es i in
      let type : unwrap_or (first_of (filter_map stated_type (said_by es i))) (unwrap_or (type_from es (symbol s) (suc i)) symbol_type.Undefined)
      ≡ unwrap_or (first_of (filter_map stated_type (said_by es i ++ flat_map (said_by es) (definitions_from es (symbol s) (suc i))))) symbol_type.Undefined =
      sym (ap (λ o. unwrap_or o symbol_type.Undefined)
      (ap first_of (filter_map-append stated_type (said_by es i) (flat_map (said_by es) (definitions_from es (symbol s) (suc i))))
      ∙ first_of-append (filter_map stated_type (said_by es i)) (filter_map stated_type (flat_map (said_by es) (definitions_from es (symbol s) (suc i)))))
      ∙ unwrap-or (first_of (filter_map stated_type (said_by es i))) (type_from es (symbol s) (suc i)) symbol_type.Undefined) in
      (λ j. record unknown { symbol_type = type j; first = record { 0 = is j } })
      ∙ ap row_by (sym (rest-step (passes (symbol s)) (entry_count es) i h e))

  -- the row of the symbol that the entry before the others defines, and those of the others
  module _ (i count : ℕ) (h : i < entry_count es) (rows : List Symbol) (so : AreRowsFrom es (suc i) count rows) where
    pub rows-none : entry_symbol es i ≡ None → AreRowsFrom es i count rows
    rows-none e = (so.0, λ s row g. so.1 s row g ∙ row-other i s h (ap (is_symbol_of (symbol s)) e))

    module _ (s : SymId) (e : entry_symbol es i ≡ Some s) (row : Symbol) (there : s.0 < length rows) (at : row ≡ get_or rows s.0 row) where
      here : slice_get rows s.0 ≡ Some row
      here = slice_get-get_or rows s.0 row there ∙ ap Some (sym at)

      -- its next definition
      pub next-is : row.first.0 ≡ stored (first_of (definitions_from es s (suc i)))
      next-is = ap (λ (r : Symbol). r.first.0) (so.1 s.0 row here)

      pub rows-some : (id : EntryId) (new : Symbol) → id.0 ≡ suc i → new ≡ with_definition id (first_of (filter_map stated_type (said_by es i))) row → AreRowsFrom es i count (slice_set rows s.0 new)
      rows-some id new is n = (length-set rows s.0 new ∙ so.0, λ t r g. by t r g (there-or t s.0))
        where
          by : (t : ℕ) (r : Symbol) → slice_get (slice_set rows s.0 new) t ≡ Some r → ((t ≡ s.0) ⊎ (t ≡ s.0 → ⊥)) → r ≡ row_from es i t
          by t r g (inl same) =
              let mine : Some new ≡ Some r = sym (set_here rows s.0 new there) ∙ ap (slice_get (slice_set rows s.0 new)) (sym same) ∙ g in
              let is_new : new ≡ r = cc in
              let own : passes (symbol t) i ≡ true = ap (is_symbol_of (symbol t)) e ∙ eq-eqb t s.0 same in
              sym is_new ∙ n
              ∙ ap (with_definition id (first_of (filter_map stated_type (said_by es i)))) (so.1 s.0 row here ∙ ap (row_from es (suc i)) (sym same))
              ∙ row-same i t id h is own
          by t r g (inr other) =
              let no : passes (symbol t) i ≡ false = ap (is_symbol_of (symbol t)) e ∙ ne_eqb t s.0 other in
              so.1 t r (sym (set_other rows s.0 t new other) ∙ g) ∙ row-other i t h no

  -- each leads to the next
  module _ (i : ℕ) (places : List EntryPlace) (so : AreLinkedFrom es (suc i) places) where
    later : (e : ℕ) → i ≤ e → (e ≡ i) ⊎ (suc i ≤ e)
    later e l = by (there-or e i)
      where
        by : ((e ≡ i) ⊎ (e ≡ i → ⊥)) → (e ≡ i) ⊎ (suc i ≤ e)
        by (inl same) = inl same
        by (inr other) = inr (before (below_or_past i e))
          where
            before : ((i < e) ⊎ (e ≤ i)) → suc i ≤ e
            before (inl b) = omega (arith, b)
            before (inr p) = absurd (other (omega (arith, p, l)))

    pub linked-none : entry_symbol es i ≡ None → AreLinkedFrom es i places
    linked-none n e p s l g d = by (later e l)
      where
        by : ((e ≡ i) ⊎ (suc i ≤ e)) → p.next.0 ≡ stored (first_of (definitions_from es s (suc e)))
        by (inl same) = absurd (let no : None ≡ Some s = sym n ∙ ap (entry_symbol es) (sym same) ∙ d in cc)
        by (inr more) = so e p s more g d

    pub linked-some : (s : SymId) (new : EntryPlace) → entry_symbol es i ≡ Some s → i < length places → new.next.0 ≡ stored (first_of (definitions_from es s (suc i))) →
        AreLinkedFrom es i (slice_set places i new)
    linked-some s new n there is e p t l g d = by (later e l)
      where
        by : ((e ≡ i) ⊎ (suc i ≤ e)) → p.next.0 ≡ stored (first_of (definitions_from es t (suc e)))
        by (inl same) =
            let mine : Some new ≡ Some p = sym (set_here places i new there) ∙ ap (slice_get (slice_set places i new)) (sym same) ∙ g in
            let is_new : new ≡ p = cc in
            let own : Some s ≡ Some t = sym n ∙ ap (entry_symbol es) (sym same) ∙ d in
            let symbols : s ≡ t = cc in
            ap (λ (q : EntryPlace). q.next.0) (sym is_new) ∙ is ∙ (λ j. stored (first_of (definitions_from es (symbols j) (suc (sym same j)))))
        by (inr more) = so e p t more (sym (set_other places i e new (λ q. absurd (omega (arith, more, q)))) ∙ g) d

  -- a line that defines no symbol
  pub no-config : (i : ℕ) (x : EntryLines) → BeginsAt es i x → ((s : SymId) → x.first.now.head ≡ head.Config s → ⊥) → entry_symbol es i ≡ None
  no-config i x h no-symbol = symbol-said es i x h ∙ by x.first.now.head refl
    where
      by : (t : Head) → x.first.now.head ≡ t → defined_name (head_view t) ≡ None
      by (head.Config s) e = absurd (no-symbol s e)
      by _ e = refl

  pub config : (i : ℕ) (x : EntryLines) (s : SymId) → BeginsAt es i x → x.first.now.head ≡ head.Config s → entry_symbol es i ≡ Some s
  config i x s h e = symbol-said es i x h ∙ ap (λ t. defined_name (head_view t)) e

  -- the symbol that an entry defines has a row
  pub symbol-there : (i count : ℕ) (s : SymId) (rows : List Symbol) → AreBelow count (statements_in es) → AreRowsFrom es (suc i) count rows → entry_symbol es i ≡ Some s → s.0 < length rows
  symbol-there i count s rows below so e = let b = below (index_of es i) s (symbol-is es i ∙ e) in let n = so.0 in omega (arith, b, n)

-- ---- Members
or-none : {X : Type 0} (o : Option X) → option_or o None ≡ o
or-none None = refl
or-none (Some x) = refl

bool-again : (k : SymbolType) → bool_without (bool_without k) ≡ bool_without k
bool-again symbol_type.Undefined = refl
bool-again _ = refl

choice-again : {X : Type 0} (o : Option X) (x y : X) → option_or (option_or o (Some x)) (Some y) ≡ option_or o (Some x)
choice-again None x y = refl
choice-again (Some z) x y = refl

again : (k j : ChoiceId) (row : Symbol) → as_member (Some k) (as_member (Some j) row) ≡ as_member (Some j) row
again k j row =
    let type = bool-again row.symbol_type in
    let choice = choice-again row.choice j k in
    λ i. record row { symbol_type = type i; choice = choice i }

-- a member once more
member-again : (o : Option ChoiceId) (b : Bool) (k : ChoiceId) (row : Symbol) →
    as_member (Some k) (as_member (option_or o (cond b (Some k) None)) row) ≡ as_member (option_or o (cond (b || true) (Some k) None)) row
member-again None true k row = again k k row
member-again None false k row = refl
member-again (Some j) true k row = again k j row
member-again (Some j) false k row = again k j row

abbrev numbered : ℕ → ChoiceId
numbered n = record { 0 = n }

module _ (choices : List Choice) (old : List Symbol) where
  -- with the members of the choices below a number, and so many of those of the choice with this number
  abbrev pub AreGiven : ℕ → List Symbol → Type 0
  AreGiven k new = (length new ≡ length old) × ((s : ℕ) (row : Symbol) → slice_get old s ≡ Some row → slice_get new s ≡ Some (as_member (choice_before choices k (symbol s)) row))

  abbrev pub listed_up : List SymId → ℕ → ℕ → ℕ → Option ChoiceId
  listed_up members k j s = option_or (choice_before choices k (symbol s)) (cond (list_any (same_symbol (symbol s)) (take j members)) (Some (record { 0 = k })) None)

  abbrev pub AreGivenUp : List SymId → ℕ → ℕ → List Symbol → Type 0
  AreGivenUp members k j new = (length new ≡ length old) × ((s : ℕ) (row : Symbol) → slice_get old s ≡ Some row → slice_get new s ≡ Some (as_member (listed_up members k j s) row))

  pub given-first : (members : List SymId) (k : ℕ) (new : List Symbol) → AreGiven k new → AreGivenUp members k 0 new
  given-first members k new so = (so.0, λ s row g. so.1 s row g ∙ ap (λ o. Some (as_member o row)) (sym (or-none (choice_before choices k (symbol s)))))

  pub given-one : (members : List SymId) (k j : ℕ) (new : List Symbol) (m : SymId) (row one : Symbol) → AreGivenUp members k j new → slice_get members j ≡ Some m →
      m.0 < length new → row ≡ get_or new m.0 row → one ≡ as_member (Some (record { 0 = k })) row → AreGivenUp members k (j + 1) (slice_set new m.0 one)
  given-one members k j new m row one so at there is n = (length-set new m.0 one ∙ so.0, λ s r g. by s r g (there-or s m.0))
    where
      more : (s : ℕ) → list_any (same_symbol (symbol s)) (take (j + 1) members) ≡ (list_any (same_symbol (symbol s)) (take j members) || (s == m.0))
      more s =
          ap (list_any (same_symbol (symbol s))) (take_more members j m (slice_get_within members j m at) ∙ ap (λ n. take j members ++ n ∷ []) (get_or_from_slice_get members j m m at))
          ∙ list_any-append (same_symbol (symbol s)) (take j members) (m ∷ [])
          ∙ ap (λ b. list_any (same_symbol (symbol s)) (take j members) || b) (or-false (s == m.0))

      with : (s : ℕ) (b : Bool) → (s == m.0) ≡ b →
          option_or (choice_before choices k (symbol s)) (cond (list_any (same_symbol (symbol s)) (take j members) || b) (Some (record { 0 = k })) None) ≡ listed_up members k (j + 1) s
      with s b e = ap (λ c. option_or (choice_before choices k (symbol s)) (cond c (Some (record { 0 = k })) None)) (sym (more s ∙ ap (λ c. list_any (same_symbol (symbol s)) (take j members) || c) e))

      by : (s : ℕ) (r : Symbol) → slice_get old s ≡ Some r → ((s ≡ m.0) ⊎ (s ≡ m.0 → ⊥)) → slice_get (slice_set new m.0 one) s ≡ Some (as_member (listed_up members k (j + 1) s) r)
      by s r g (inl same) =
          let before : Some row ≡ Some (as_member (listed_up members k j s) r) =
          sym (slice_get-get_or new m.0 row there ∙ ap Some (sym is)) ∙ ap (slice_get new) (sym same) ∙ so.1 s r g in
          let was : row ≡ as_member (listed_up members k j s) r = cc in
          ap (slice_get (slice_set new m.0 one)) same ∙ set_here new m.0 one there
          ∙ ap Some (n ∙ ap (as_member (Some (record { 0 = k }))) was
          ∙ member-again (choice_before choices k (symbol s)) (list_any (same_symbol (symbol s)) (take j members)) (record { 0 = k }) r
          ∙ ap (λ o. as_member o r) (with s true (eq-eqb s m.0 same)))
      by s r g (inr other) =
          set_other new m.0 s one other ∙ so.1 s r g
          ∙ ap (λ o. Some (as_member o r))
          (ap (λ c. option_or (choice_before choices k (symbol s)) (cond c (Some (record { 0 = k })) None)) (sym (or-false (list_any (same_symbol (symbol s)) (take j members))))
          ∙ with s false (ne_eqb s m.0 other))

  pub given-all : (members : List SymId) (k j : ℕ) (new : List Symbol) (c : Choice) → slice_get choices k ≡ Some c → c.members.items ≡ members → length members ≤ j →
      AreGivenUp members k j new → AreGiven (k + 1) new
  given-all members k j new c at is l so = (so.0, λ s row g. so.1 s row g ∙ ap (λ o. Some (as_member o row)) (next s))
    where
      first-of : (p : Bool) (ks : List ℕ) → option_or (option_map numbered (first_of ks)) (cond p (Some (numbered k)) None) ≡ option_map numbered (first_of (ks ++ cond p (k ∷ []) []))
      first-of true [] = refl
      first-of false [] = refl
      first-of p (n ∷ ks) = refl

      lists-here : (s : ℕ) → lists choices (symbol s) k ≡ list_any (same_symbol (symbol s)) (take j members)
      lists-here s =
          ap (λ o. list_any (λ (d : Choice). list_any (same_symbol (symbol s)) d.members.items) (listed o)) at
          ∙ or-false (list_any (same_symbol (symbol s)) c.members.items)
          ∙ ap (list_any (same_symbol (symbol s))) (is ∙ sym (take-whole members j l))

      next : (s : ℕ) → listed_up members k j s ≡ choice_before choices (k + 1) (symbol s)
      next s =
          ap (λ b. option_or (choice_before choices k (symbol s)) (cond b (Some (record { 0 = k })) None)) (sym (lists-here s))
          ∙ first-of (lists choices (symbol s) k) (filter (lists choices (symbol s)) (numbers k))
          ∙ ap (λ ks. option_map numbered (first_of ks)) (sym (filter-append (lists choices (symbol s)) (numbers k) (k ∷ [])))
          ∙ ap (λ n. choice_before choices n (symbol s)) (sym (add-one k))

-- each member has a row
pub member-there : (choices : List Choice) (count k j : ℕ) (c : Choice) (members : List SymId) (m : SymId) → AreMembersThere count choices → k < length choices → c ≡ get_or choices k c →
    members ≡ c.members.items → slice_get members j ≡ Some m → m.0 < count
member-there choices count k j c members m all below at is there =
    all k c j m (slice_get-get_or choices k c below ∙ ap Some (sym at)) (ap (λ l. slice_get l j) (sym is) ∙ there)

-- a definition, by what its entry says
pub with-said : (id : EntryId) (row : Symbol) {own said : List Numbered} → own ≡ said → with_definition id (first_of (filter_map stated_type own)) row ≡ with_definition id (first_of (filter_map stated_type said)) row
with-said id row e = ap (λ l. with_definition id (first_of (filter_map stated_type l)) row) e
