-- The listing of an expanded list.
use Rattle.std.proofs.{Common.{List, Ok, Option, [], ap, arith, codes, length, map, position, sym, ℕ, ◌∙◌, ◌≡◌, ◌≤◌}, lemmas.List.length-map}
use Rattle.std.specs.{Option.option_or, Prelude.option_map, declared.{alloc.Global.Global, vec.Vec.Vec}}
use Rattle.kc_language.specs.{Expansion.{Expands, Files, ReadSoFar, mentioned_names, modules_of}, Expressions.{number_of, same_name, symbol}, Statements.statements, Text.most_lines, declared.expressions.SymId.SymId}
use Rattle.kc_read.specs.{Expanded.IsExpansion, declared.expansion.Expansion.Expansion}
use Rattle.kc_entries.specs.{Entries.lines_in, PartsOfExpansion.{defined as defined_names, located_numbered, number_line}}
use Rattle.kc_read.proofs.{FewLemmas.expansion_few, NameLemmas.extends_none, NumberingLemmas.{defined_are_numbers, modules_are, named_is, statements_numbered}}
use Rattle.kc_build.specs.{Listings.IsListing, declared.listing.Listing.Listing}

-- the name that stands for modules where no line does
abbrev modules_name : List (List ℕ) → Option SymId
modules_name names = option_map symbol (position (same_name (codes "MODULES")) names)

pub listing-is : (log : ReadSoFar) (names : List (List ℕ)) (e : Expansion) → IsExpansion [] names log e → (defined : Vec SymId Global) (modules : Option SymId) →
    defined.items ≡ e.defined → modules ≡ option_or e.modules (modules_name names) →
    IsListing log (record { names = names; defined = defined; modules = modules; entries = e.entries })
listing-is log names e x defined modules d m =
    let ss = statements log.lines in
    record {
      names_are = x.mentions;
      lines_are = x.lines names (extends_none names) ∙ ap (λ (ns : List (List ℕ)). map (located_numbered (number_of ns)) log.lines) x.mentions;
      defined_are = d ∙ x.defined_is names (extends_none names) ∙ ap (λ (ns : List (List ℕ)). map (λ n. symbol (number_of ns n)) (defined_names ss)) x.mentions
          ∙ sym (defined_are_numbers log.lines);
      modules_is = m
          ∙ ap (λ (o : Option SymId). option_or o (modules_name names)) (named_is names e.modules (modules_of ss) x.modules_is)
          ∙ ap (λ (ns : List (List ℕ)). option_or (option_map (λ n. symbol (number_of ns n)) (modules_of ss)) (modules_name ns)) x.mentions
          ∙ ap (λ (o : Option SymId). option_or o (modules_name (mentioned_names ss)))
          (sym (modules_are (number_of (mentioned_names ss)) ss) ∙ ap modules_of (sym (statements_numbered (number_of (mentioned_names ss)) log.lines)));
    }

-- the lines of a listing are those of its expanded list
pub listing-few : (files : Files) (root : List ℕ) (log : ReadSoFar) (l : Listing) → Expands files root (Ok log) → IsListing log l → length (lines_in l.entries) ≤ most_lines
listing-few files root log l x h =
    let n = ap length h.lines_are ∙ length-map log.lines (number_line (statements log.lines)) in
    let few = expansion_few files root log x in
    omega arith
