-- The members and the defaults of a choice, by its row.
use Rattle.std.proofs.Common.{Bool, List, None, Option, Some, ap, cond, false, get_or, length, not, refl, sym, true, ℕ, ◌&&◌, ◌+◌, ◌<◌, ◌∙◌, ◌≡◌, ◌≤◌}
use Rattle.std.specs.{List.{cons_option, filter_map, find, list_any}, Option.{option_and_then, option_or}, Prelude.option_map}
use Rattle.kc_language.specs.{Expressions.same_symbol, Statements.Numbered, Symbols.{ChoiceFacts, Condition, Guarded, StatedDefault, single_symbol, stated_default}, Values.is_n, declared.expressions.SymId.SymId}
use Rattle.kc_language.specs.Values as lookup
use Rattle.kc_entries.specs.{StatementViews.attribute_view, declared.entries.AttributeLine.AttributeLine}
use Rattle.kc_tree.specs.{Layouts.{choice_dependency, choice_facts, is_member, member_default, member_named, with_when}, declared.{layout.Layout.Layout, rows.Choice.Choice}}
use Rattle.kc_tree.proofs.ChoiceLemmas.{member-is}
use Rattle.kc_user.specs.PartsOfConfigFile.{member_place}
use Rattle.kc_values.specs.AtTable as table
use Rattle.kc_values.specs.PartsOfValues as spec
use Rattle.kc_values.specs.{TableFacts.{IsChoiceRow, known_at}, declared.table.Table.Table}
use Rattle.kc_values.proofs.{Laid.choice_found, SaidFrom.{said-end, said-next, said_from}}

module _ (t : Table) (k : ℕ) (c : Choice) where
  abbrev l : Layout
  l = t.layout.now

  row-member : IsChoiceRow t k c → (s : SymId) → is_member l k s ≡ list_any (same_symbol s) c.members.items
  row-member row s = member-is l k s ∙ ap (list_any (same_symbol s)) (sym (l.laid.members k c row))

  abbrev facts : ChoiceFacts
  facts = choice_facts l k c

  -- what the tree says of it
  row-facts : IsChoiceRow t k c → Some facts ≡ lookup.choice_at t.tree.now k
  row-facts row = choice_found t.tree.now l t.laid k (Some c) (sym row)

  -- The selection, where the mode is not n.
  module _ (row : IsChoiceRow t k c) (on : is_n (table.mode_of t k) ≡ false) where
    mode-on : is_n (lookup.mode_of t.tree.now (known_at t) (Some facts)) ≡ false
    mode-on = ap (λ o. is_n (lookup.mode_of t.tree.now (known_at t) o)) (row-facts row) ∙ on

    by-member : (m : SymId) (b : Bool) → table.visible_member t k m ≡ b →
        table.selected_by t k c (member_place (Some m)) ≡ option_or (cond b (Some m) None) (table.unselected t k c)
    by-member m b h =
        let seen = sym (ap (λ mine. mine && table.visible t m) (row-member row m)) ∙ h in
        λ j. cond (mode-on j) None (option_or (cond (seen j) (Some m) None) (table.unselected t k c))

    -- of a visible member of the user, of another symbol, and without one
    pub selected-member : (m : SymId) → table.visible_member t k m ≡ true → table.selected_by t k c (member_place (Some m)) ≡ Some m
    selected-member m h = by-member m true h

    pub selected-stranger : (m : SymId) → table.visible_member t k m ≡ false → table.selected_by t k c (member_place (Some m)) ≡ table.unselected t k c
    selected-stranger m h = by-member m false h

    pub selected-free : table.selected_by t k c (member_place None) ≡ table.unselected t k c
    selected-free = λ j. cond (mode-on j) None (table.unselected t k c)

  abbrev dep : Condition
  dep = choice_dependency l c

  abbrev default_of : StatedDefault → SymId → Guarded SymId
  default_of d s = record { what = s; when = with_when dep d.when }

  default-by : (d : StatedDefault) (o : Option SymId) → single_symbol d.value ≡ o →
      member_default l k dep d ≡ option_map (default_of d) (option_and_then (λ s. cond (is_member l k s) (Some s) None) o)
  default-by d None e = ap (option_and_then (λ s. cond (is_member l k s) (Some (default_of d s)) None)) e
  default-by d (Some s) e = ap (option_and_then (λ s. cond (is_member l k s) (Some (default_of d s)) None)) e ∙ by (is_member l k s)
    where
      by : (b : Bool) → cond {A = Option (Guarded SymId)} b (Some (default_of d s)) None ≡ option_map (default_of d) (cond b (Some s) None)
      by true = refl
      by false = refl

  -- the default of a line that names a member, or none
  default-is : (s : Numbered) (d : StatedDefault) (m : Option SymId) → Some d ≡ stated_default s → m ≡ member_named l k s → member_default l k dep d ≡ option_map (default_of d) m
  default-is s d m e n =
      default-by d (single_symbol d.value) refl
      ∙ ap (λ (o : Option StatedDefault). option_map (default_of d) (option_and_then (λ s. cond (is_member l k s) (Some s) None) (option_and_then (λ g. single_symbol g.value) o))) e
      ∙ sym (ap (option_map (default_of d)) n)

  -- what is named is a member
  named-by : (o : Option SymId) (m : SymId) → Some m ≡ option_and_then (λ s. cond (is_member l k s) (Some s) None) o → is_member l k m ≡ true
  named-by None m h = absurd cc
  named-by (Some s) m h = by (is_member l k s) refl h
    where
      by : (b : Bool) → is_member l k s ≡ b → Some m ≡ cond b (Some s) None → is_member l k m ≡ true
      by true e q = let same : m ≡ s = cc in ap (is_member l k) same ∙ e
      by false e q = absurd cc

  module _ (ls : List AttributeLine) where
    -- the default that counts from a line on
    abbrev pub default_from : ℕ → Option SymId
    default_from i = spec.first_default t.tree.now (known_at t) facts (filter_map (member_default l k dep) (said_from stated_default ls i))

    pub default-quiet : (i : ℕ) (x : AttributeLine) → i < length ls → x ≡ get_or ls i x → None ≡ stated_default (attribute_view x.attribute) → default_from i ≡ default_from (i + 1)
    default-quiet i x h at e = ap (λ r. spec.first_default t.tree.now (known_at t) facts (filter_map (member_default l k dep) r)) (said-next stated_default ls i x None h at (sym e))

    more : (i : ℕ) (x : AttributeLine) (d : StatedDefault) (m : Option SymId) → i < length ls → x ≡ get_or ls i x → Some d ≡ stated_default (attribute_view x.attribute) →
        m ≡ member_named l k (attribute_view x.attribute) →
        default_from i ≡ spec.first_default t.tree.now (known_at t) facts (cons_option (option_map (default_of d) m) (filter_map (member_default l k dep) (said_from stated_default ls (i + 1))))
    more i x d m h at e n =
        ap (λ r. spec.first_default t.tree.now (known_at t) facts (filter_map (member_default l k dep) r)) (said-next stated_default ls i x (Some d) h at (sym e))
        ∙ ap (λ o. spec.first_default t.tree.now (known_at t) facts (cons_option o (filter_map (member_default l k dep) (said_from stated_default ls (i + 1))))) (default-is (attribute_view x.attribute) d m e n)

    -- it names no member
    pub default-stranger : (i : ℕ) (x : AttributeLine) (d : StatedDefault) → i < length ls → x ≡ get_or ls i x → Some d ≡ stated_default (attribute_view x.attribute) →
        None ≡ member_named l k (attribute_view x.attribute) → default_from i ≡ default_from (i + 1)
    default-stranger i x d h at e n = more i x d None h at e n

    -- it names one, which counts where the condition is not n and the member is visible
    pub default-line : IsChoiceRow t k c → (i : ℕ) (x : AttributeLine) (d : StatedDefault) (m : SymId) (unmet seen : Bool) → i < length ls → x ≡ get_or ls i x → Some d ≡ stated_default (attribute_view x.attribute) →
        Some m ≡ member_named l k (attribute_view x.attribute) → is_n (table.condition t (with_when dep d.when)) ≡ unmet → table.visible t m ≡ seen →
        default_from i ≡ cond (not unmet && seen) (Some m) (default_from (i + 1))
    default-line row i x d m unmet seen h at e n is sees =
        let mine : list_any (same_symbol m) c.members.items ≡ true = sym (row-member row m) ∙ named-by _ m n in
        let rest = find (λ (g : Guarded SymId). not (is_n (table.condition t g.when)) && lookup.visible_member t.tree.now (known_at t) facts g.what)
        (filter_map (member_default l k dep) (said_from stated_default ls (i + 1))) in
        more i x d (Some m) h at e n
        ∙ (λ j. spec.what_of (cond (not (is j) && (mine j && sees j)) (Some (default_of d m)) rest))
        ∙ by (not unmet && seen) rest
      where
        by : (b : Bool) (rest : Option (Guarded SymId)) → spec.what_of (cond b (Some (default_of d m)) rest) ≡ cond b (Some m) (spec.what_of rest)
        by true rest = refl
        by false rest = refl

    pub default-end : (i : ℕ) → length ls ≤ i → default_from i ≡ None
    default-end i h = ap (λ r. spec.first_default t.tree.now (known_at t) facts (filter_map (member_default l k dep) r)) (said-end stated_default ls i h)
