-- All that is found of the entries stands in one layout.
use Rattle.std.proofs.{Common.{List, None, Option, Some, [], ap, arith, length, refl, subst, sym, true, ℕ, ◌*◌, ◌+◌, ◌<◌, ◌^◌, ◌∙◌, ◌≡◌, ◌≤◌}, lemmas.List.length-map}
use Rattle.std.specs.{List.slice_get, Option.option_and_then}
use Rattle.kc_language.specs.{Expansion.{NoBracket, bracket, opened}, Statements.{ChoiceLine, EndMenuLine, IfLine, MenuLine, Numbered}, Symbols.{bad_members, defined_symbols}, declared.expressions.SymId.SymId}
use Rattle.kc_language.specs.declared.statements.Block.TheVariants as block
use Rattle.kc_entries.specs.{Entries.lines_in, ListFacts.{AreMenusClosed, is_menu_line}, declared.entries.Entries.Entries}
use Rattle.kc_entries.proofs.MemberLemmas.{member_is}
use Rattle.kc_tree.specs.{EntryViews.{index_of, statements_in}, Laid.IsLaid, Places.ArePlaces, declared.rows.{Choice.Choice, EntryPlace.EntryPlace, Selector.Selector, Symbol.Symbol}}
use Rattle.kc_tree.proofs.IndexLemmas.{symbol-is}
use Rattle.kc_build.specs.{Limits.{IsFew, most_names}, Nesting.AreBlocksClosed, SelectorRows.AreSelectors, Sound.AreSound, Standing.AreBlocksOf, SymbolRows.AreKnownRows, SymbolsFound.{AreLinkedFrom, AreMembersOf, AreMembersThere, AreRowsFrom, AreSamePlaces, unlinked}, declared.blocks.Blocks.Blocks}
use Rattle.kc_build.proofs.KnownLemmas.{choices-few, entries-few, known-rows, members-there, menus-few, places-are}

-- each end of a menu closes a menu
menu-by : (o : Option Numbered) → opened (elim o [ None ↦ NoBracket | Some s ↦ bracket s ]) ≡ Some block.Menu → is_menu_line o ≡ true
menu-by None e = absurd cc
menu-by (Some (MenuLine t)) e = refl
menu-by (Some (IfLine d)) e = absurd cc
menu-by (Some ChoiceLine) e = absurd cc
menu-by (Some _) e = absurd cc

menus-closed : (ss : List Numbered) → AreBlocksClosed ss → AreMenusClosed ss
menus-closed ss closed i h =
    let w = closed i EndMenuLine block.Menu h refl in
    ap (λ o. is_menu_line (option_and_then (slice_get ss) o)) (w.1) ∙ menu-by (slice_get ss (w.0)) (w.2)

-- What is found of so many names, as each step of the building needs it.
module _ (es : Entries) (count : ℕ) (sound : AreSound count (statements_in es)) (b : Blocks) (blocks : AreBlocksOf es b) where
  -- the members have rows
  pub members-here : (choices : List Choice) (rows : List Symbol) → choices ≡ b.choices.items → length rows ≡ count → AreMembersThere (length rows) choices
  members-here choices rows same n =
      subst (λ k. AreMembersThere k choices) (sym n) (subst (AreMembersThere count) (sym same) (members-there es count b.choices.items sound.below blocks.members))

  -- the rows are known once the members have their choices
  pub rows-here : (choices : List Choice) (one two rows : List Symbol) → choices ≡ b.choices.items → AreRowsFrom es 0 count one → AreMembersOf choices one two → rows ≡ two → AreKnownRows es rows
  rows-here choices one two rows same from members is =
      subst (AreKnownRows es) (sym is)
      (known-rows es sound.types sound.apart b.choices.items blocks.choice_entries blocks.members count one two from (subst (λ cs. AreMembersOf cs one two) same members))

  -- the places, once the definitions are linked
  pub places-here : (new places : List EntryPlace) → AreSamePlaces b.places.items new → AreLinkedFrom es 0 new → places ≡ new → ArePlaces es places
  places-here new places same linked is = subst (ArePlaces es) (sym is) (places-are es b.places.items new same blocks.standing linked)

module _ (es : Entries) (lines_few : 8 * length (lines_in es) + 8 < 2 ^ 32) where
  pub is-few : length es.attributes.items ≤ most_names → IsFew es
  is-few attributes = let e = entries-few es in record { entries = omega (arith, lines_few, e); attributes = attributes }

  module _ (b : Blocks) (blocks : AreBlocksOf es b) where
    pub choices-fit : length b.choices.items < 2 ^ 32
    choices-fit = let e = entries-few es in let c = choices-few es b.choices.items blocks.choice_entries in omega (arith, e, c, lines_few)

    -- a place for each entry
    places-count : (places : List EntryPlace) → AreSamePlaces b.places.items places → length places ≡ length es.first_lines.items
    places-count places same = sym (length-map places unlinked) ∙ ap length same ∙ length-map b.places.items unlinked ∙ blocks.count

    pub laid : (count : ℕ) (places : List EntryPlace) (symbols : List Symbol) (selectors : List Selector) (defined : List SymId) → count ≤ most_names → AreSound count (statements_in es) →
        AreSamePlaces b.places.items places → ArePlaces es places → AreSelectors es count symbols selectors → defined ≡ defined_symbols (statements_in es) → bad_members (statements_in es) ≡ [] →
        IsLaid es places b.visibles.items symbols selectors b.choices.items defined
    laid count places symbols selectors defined names sound same stand found are none =
        let e = entries-few es in
        let c = choices-few es b.choices.items blocks.choice_entries in
        let v = menus-few es b.visibles.items blocks.visibles in
        record {
          count = places-count places same;
          places_are = stand;
          visibles_are = blocks.visibles;
          symbols_are = found.rows_are;
          symbols_there = λ i s h. (let low = sound.below (index_of es i) s (symbol-is es i ∙ h) in omega (arith, low, found.same));
          effects = found.pairs_are;
          chained = found.chained;
          choice_entries = blocks.choice_entries;
          members = blocks.members;
          defined_are = are;
          apart = sound.apart;
          menus_closed = menus-closed (statements_in es) sound.closed;
          members_once = λ k s. member_is (statements_in es) s none k;
          few = omega (arith, e, c, v, found.same, names, lines_few);
        }
