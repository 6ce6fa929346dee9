-- Texts that are handed out symbol by symbol and entry by entry.
use Rattle.std.proofs.{Common.{Bool, List, Some, [], ap, append-nil, append_assoc, arith, drop, false, length, length-append, refl, sym, true, ℕ, ◌++◌, ◌+◌, ◌<◌, ◌∙◌, ◌≡◌, ◌≤◌}, lemmas.{List.{drop_all, drop_more}, Option.{get_or_from_slice_get, slice_get_within}}}
use Rattle.std.specs.{List.flat_map, Prelude.slice_get}
use Rattle.kc_language.specs.{ConfigFile.Notation, Expressions.SymbolValue, Symbols.{SymbolShown, TreeFacts}, Texts.{SolutionView, config_file_line, entry_text, header_line, symbol_new}, Values.name as name_of, declared.expressions.SymId.SymId}
use Rattle.kc_config_file.specs.PartsOfTexts.{gap, header_if, minimal_if, new_if}

-- a text grows by the next part of what is still to come
pub grows : (whole text grown part rest more : List ℕ) → text ++ rest ≡ whole → rest ≡ part ++ more → grown ≡ text ++ part → grown ++ more ≡ whole
grows whole text grown part rest more is next added = rw added (append_assoc text part more ∙ ap (λ t. text ++ t) (sym next) ∙ is)

-- the whole is not empty where a part of a byte or more is still to come
pub grows_some : (whole text part rest more : List ℕ) → text ++ rest ≡ whole → rest ≡ part ++ more → 0 < length part → 0 < length whole
grows_some whole text part rest more is next some = omega (arith, ap length is, length-append text rest, ap length next, length-append part more)

-- nothing more is to come
pub is_grown : (whole text rest : List ℕ) → text ++ rest ≡ whole → rest ≡ [] → text ≡ whole
is_grown whole text rest is none = sym (append-nil text) ∙ ap (λ t. text ++ t) (sym none) ∙ is

-- the name of a symbol, as the tree hands it out
pub name_is : (tree : TreeFacts) (s : SymId) (name : List ℕ) → slice_get tree.names s.0 ≡ Some name → name ≡ name_of tree s
name_is tree s name found = sym (get_or_from_slice_get tree.names s.0 name [] found)

module _ (tree : TreeFacts) (prefix : Notation) (solution : SolutionView) (s : SymId) where
  pub header_if-written : (name : List ℕ) (known : SymbolValue) → solution.written s ≡ true → slice_get tree.names s.0 ≡ Some name → known ≡ solution.value s →
      header_line prefix.is_raw (prefix.prefix ++ name) known ≡ header_if tree prefix solution s
  header_if-written name known written found value = rw (written, name_is tree s name found, value) refl

  pub header_if-not : solution.written s ≡ false → [] ≡ header_if tree prefix solution s
  header_if-not not_written = rw not_written refl

  pub minimal_if-differs : (name : List ℕ) (known : SymbolValue) → solution.differs s ≡ true → slice_get tree.names s.0 ≡ Some name → known ≡ solution.value s →
      config_file_line prefix.is_raw (prefix.prefix ++ name) known ≡ minimal_if tree prefix solution s
  minimal_if-differs name known differs found value = rw (differs, name_is tree s name found, value) refl

  pub minimal_if-not : solution.differs s ≡ false → [] ≡ minimal_if tree prefix solution s
  minimal_if-not same = rw same refl

  pub new_if-new : solution.is_new s ≡ true → symbol_new tree prefix solution s ≡ new_if tree prefix solution s
  new_if-new new = rw new refl

  pub new_if-not : solution.is_new s ≡ false → [] ≡ new_if tree prefix solution s
  new_if-not not_new = rw not_new refl

-- Symbol by symbol.
module _ (tree : TreeFacts) (f : SymId → List ℕ) where
  -- one symbol more
  pub symbols_next : (i : ℕ) (s : SymId) → slice_get tree.defined i ≡ Some s → flat_map f (drop i tree.defined) ≡ f s ++ flat_map f (drop (i + 1) tree.defined)
  symbols_next i s at =
      let within = slice_get_within tree.defined i s at in
      rw (drop_more tree.defined i s within, get_or_from_slice_get tree.defined i s s at) refl

  -- no symbol more
  pub symbols_end : (n : ℕ) → length tree.defined ≤ n → flat_map f (drop n tree.defined) ≡ []
  symbols_end n all = rw (drop_all n tree.defined all) refl

module _ (tree : TreeFacts) (prefix : Notation) (solution : SolutionView) where
  -- the line of a symbol that is written
  pub symbol-written : (after_end : Bool) (s : SymId) (name : List ℕ) (known : SymbolValue) → solution.written s ≡ true → slice_get tree.names s.0 ≡ Some name → known ≡ solution.value s →
      gap after_end ++ config_file_line prefix.is_raw (prefix.prefix ++ name) known ≡ entry_text tree prefix solution after_end (SymbolShown s)
  symbol-written after_end s name known written found value = rw (written, name_is tree s name found, value) refl
