-- Whose entry each line belongs to, and what prompts stand before it in that entry.
use Rattle.std.proofs.{Common.{Bool, List, Option, Some, [], add-one, ap, arith, false, filter, if◌then◌else◌, refl, reverse, suc, sym, take, true, ℕ, ◌++◌, ◌+◌, ◌||◌, ◌∙◌, ◌∷◌, ◌≡◌}, lemmas.List.{append-nil, reverse-append}}
use Rattle.std.specs.{List.{list_any, prefix_len, slice_get, take_while}, Option.{is_some, unwrap_or}, Prelude.option_map}
use Rattle.kc_language.specs.{Expansion.{is_attribute, last_of, numbers}, Statements.Numbered, Symbols.{begun, choice_number, menu_entry_at, prompt_of}}
use Rattle.kc_language.specs.declared.symbols.MenuEntry.TheVariants as menu_entry
use Rattle.kc_entries.specs.PartsOfSymbols.{begun_at, entry_before, is_some_other, menu_entry_before, prompt_before}
use Rattle.kc_entries.proofs.{EnclosingLemmas.{last-snoc, take-next}, PlaceLemmas.filter-next}

module _ (ss : List Numbered) where
  abbrev is_head : ℕ → Bool
  is_head j = is_some_other (slice_get ss j)

  heads_next : (i : ℕ) (b : Bool) → is_head i ≡ b → filter is_head (numbers (i + 1)) ≡ filter is_head (numbers i) ++ (if b then i ∷ [] else [])
  heads_next i b e = filter-next is_head i ∙ ap (λ (c : Bool). filter is_head (numbers i) ++ (if c then i ∷ [] else [])) e

  before_attribute : (i : ℕ) → is_head i ≡ false → entry_before ss (i + 1) ≡ entry_before ss i
  before_attribute i e = ap last_of (heads_next i false e ∙ append-nil (filter is_head (numbers i)))

  before_head : (i : ℕ) → is_head i ≡ true → entry_before ss (i + 1) ≡ Some i
  before_head i e = ap last_of (heads_next i true e) ∙ last-snoc (filter is_head (numbers i)) i

  -- behind an attribute it is the entry before it
  pub entry_goes_on : (i : ℕ) (s : Numbered) → slice_get ss i ≡ Some s → is_attribute s ≡ true → menu_entry_before ss (i + 1) ≡ menu_entry_before ss i
  entry_goes_on i s h e =
      let head : is_head i ≡ false = rw (h, e) refl in
      ap (λ (o : Option ℕ). unwrap_or (option_map (begun_at ss) o) menu_entry.Other) (before_attribute i head)

  -- behind another line it is the one that this begins
  pub entry_begins : (i : ℕ) (s : Numbered) → slice_get ss i ≡ Some s → is_attribute s ≡ false → menu_entry_before ss (i + 1) ≡ begun (choice_number ss i) s
  entry_begins i s h e =
      let head : is_head i ≡ true = rw (h, e) refl in
      let begins : begun (choice_number ss i) s ≡ begun_at ss i = rw h refl in
      ap (λ (o : Option ℕ). unwrap_or (option_map (begun_at ss) o) menu_entry.Other) (before_head i head) ∙ sym begins

  pub entry_here : (i : ℕ) → menu_entry_before ss (i + 1) ≡ menu_entry_at ss i
  entry_here i = rw add-one refl

abbrev pub has_prompt : Numbered → Bool
has_prompt s = is_some (prompt_of s)

abbrev has_prompt_in : List Numbered → Bool
has_prompt_in ss = list_any has_prompt (take_while is_attribute ss)

run_take : (n : ℕ) (s : Numbered) (ss : List Numbered) → take (1 + n) (s ∷ ss) ≡ s ∷ take n ss
run_take n s ss = let e : 1 + n ≡ suc n = omega arith in rw e refl

attribute_run : (s : Numbered) (ss : List Numbered) → is_attribute s ≡ true → has_prompt_in (s ∷ ss) ≡ (has_prompt s || has_prompt_in ss)
attribute_run s ss e = rw e (ap (list_any has_prompt) (run_take (prefix_len is_attribute ss) s ss))

other_run : (s : Numbered) (ss : List Numbered) → is_attribute s ≡ false → has_prompt_in (s ∷ ss) ≡ false
other_run s ss e = rw e refl

turned : (ss : List Numbered) (i : ℕ) (s : Numbered) → slice_get ss i ≡ Some s → prompt_before ss (i + 1) ≡ has_prompt_in (s ∷ reverse (take i ss))
turned ss i s h =
    let back : reverse (take (suc i) ss) ≡ s ∷ reverse (take i ss) = ap reverse (take-next ss i s h) ∙ reverse-append (take i ss) (s ∷ []) in
    (rw add-one (ap has_prompt_in back))

-- a prompt stands before the line behind an attribute, if it stands before that or is its own
pub prompt_goes_on : (ss : List Numbered) (i : ℕ) (s : Numbered) → slice_get ss i ≡ Some s → is_attribute s ≡ true → prompt_before ss (i + 1) ≡ (has_prompt s || prompt_before ss i)
prompt_goes_on ss i s h e = turned ss i s h ∙ attribute_run s (reverse (take i ss)) e

-- none stands before the line behind another line
pub prompt_begins : (ss : List Numbered) (i : ℕ) (s : Numbered) → slice_get ss i ≡ Some s → is_attribute s ≡ false → prompt_before ss (i + 1) ≡ false
prompt_begins ss i s h e = turned ss i s h ∙ other_run s (reverse (take i ss)) e
