-- What one line does to the places.
use Rattle.std.proofs.{Common.{Bool, List, None, Option, Some, [], ap, false, length, refl, slice_set, sym, true, true≢false, ℕ, ◌++◌, ◌<◌, ◌∙◌, ◌∷◌, ◌≡◌}, lemmas.Option.slice_get_within}
use Rattle.std.specs.Prelude.{IfSome, if◌then◌else◌, slice_get}
use Rattle.kc_language.specs.{ConfigFile.{LineMeaning, Notation, Places, StreamLocation, UserInput, Warns, is_reported, not_allowed, places_given, set_by_type, set_text}, Symbols.{SymbolFacts, TreeFacts, Warning}, Values.{GivenValue, is_yes, type_in}, declared.{expressions.{SymId.SymId, SymbolType.SymbolType}, symbols.ChoiceId.ChoiceId}}
use Rattle.kc_language.specs.declared.expressions.SymbolType.TheVariants as symbol_type
use Rattle.kc_language.specs.declared.diagnostics.Warning.TheVariants as warning
use Rattle.kc_entries.specs.WellFormed.{IsWellFormed}
use Rattle.kc_tree.specs.Places.{mode_view}
use Rattle.kc_input.specs.{EffectView.AssignsDefined, LineSteps.{gone_by, input_left, refused_by, with_member}, PartsOfConfigFile.{assigned_or, choice_of, effect_text, line_value, set_effect, warning_line_if}}
use Rattle.kc_input.proofs.PlaceLemmas.{places_given-one}

by_value : (tree : TreeFacts) (name : List ℕ) (s : SymId) (found : Option GivenValue) → s.0 < length tree.symbols → AssignsDefined tree (assigned_or name s found)
by_value tree name s None defined = tt
by_value tree name s (Some given) defined = defined

by_type : (is_raw : Bool) (tree : TreeFacts) (name : List ℕ) (s : SymId) (text : List ℕ) (k : SymbolType) → s.0 < length tree.symbols → AssignsDefined tree (set_by_type is_raw name s text k)
by_type is_raw tree name s text symbol_type.Undefined defined = tt
by_type is_raw tree name s text symbol_type.Bool defined = by_value tree name s (line_value is_raw symbol_type.Bool text) defined
by_type is_raw tree name s text symbol_type.Tristate defined = by_value tree name s (line_value is_raw symbol_type.Tristate text) defined
by_type is_raw tree name s text symbol_type.Str defined = by_value tree name s (line_value is_raw symbol_type.Str text) defined
by_type is_raw tree name s text symbol_type.Int defined = by_value tree name s (line_value is_raw symbol_type.Int text) defined
by_type is_raw tree name s text symbol_type.Hex defined = by_value tree name s (line_value is_raw symbol_type.Hex text) defined

by_facts : (is_raw : Bool) (tree : TreeFacts) (name : List ℕ) (s : SymId) (text : List ℕ) (o : Option SymbolFacts) → slice_get tree.symbols s.0 ≡ o → AssignsDefined tree (set_by_type is_raw name s text (type_in o))
by_facts is_raw tree name s text None is = tt
by_facts is_raw tree name s text (Some facts) is = by_type is_raw tree name s text facts.symbol_type (slice_get_within tree.symbols s.0 facts is)

-- a set line gives a value to a defined symbol alone
pub set_defined : (is_raw : Bool) (tree : TreeFacts) (name text : List ℕ) (found : Option SymId) → AssignsDefined tree (set_effect is_raw tree name text found)
set_defined is_raw tree name text None = tt
set_defined is_raw tree name text (Some s) = by_facts is_raw tree name s text (slice_get tree.symbols s.0) refl

-- a member's choice is one of the tree's
pub choice_there : (tree : TreeFacts) (i : ℕ) (facts : SymbolFacts) (choice : Option ChoiceId) → IsWellFormed tree → slice_get tree.symbols i ≡ Some facts → mode_view choice ≡ facts.choice →
    IfSome choice (λ k. k.0 < length tree.choices)
choice_there tree i facts None formed found is = tt
choice_there tree i facts (Some k) formed found is =
    let (c, listed, member) = formed.members_listed i facts found k.0 (sym is) in
    slice_get_within tree.choices k.0 c listed

-- a warning that is not reported leaves the input, and nothing is told
not_reported : (w : Warning) (asked : Bool) → is_reported asked w ≡ false → (name : List ℕ) × (w ≡ warning.TextUnset name)
not_reported (warning.TypeRedefined name) asked e = absurd (true≢false e)
not_reported (warning.PromptRedefined name) asked e = absurd (true≢false e)
not_reported (warning.WithoutType name) asked e = absurd (true≢false e)
not_reported (warning.TextTarget name word) asked e = absurd (true≢false e)
not_reported (warning.DefaultNotMember name) asked e = absurd (true≢false e)
not_reported (warning.MemberTarget name word) asked e = absurd (true≢false e)
not_reported (warning.UnknownSymbol name) asked e = absurd (true≢false e)
not_reported (warning.NotAllowed name) asked e = absurd (true≢false e)
not_reported warning.MalformedLine asked e = absurd (true≢false e)
not_reported (warning.SetAgain name) asked e = absurd (true≢false e)
not_reported (warning.Selected name selected_to direct) asked e = absurd (true≢false e)
not_reported (warning.UserOutside name value low high) asked e = absurd (true≢false e)
not_reported (warning.DefaultOutside name value low high used) asked e = absurd (true≢false e)
not_reported (warning.Lost name given value) asked e = absurd (true≢false e)
not_reported (warning.LostWithoutPrompt name given value) asked e = absurd (true≢false e)
not_reported (warning.Changed name old file line new) asked e = absurd (true≢false e)
not_reported (warning.TextUnset name) asked e = (name, refl)

pub unreported : (tree : TreeFacts) (prefix : Notation) (input : UserInput) (at : StreamLocation) (said : LineMeaning) (w : Warning) → is_reported input.asks_unset w ≡ false →
    input_left tree prefix input at said (Warns w) ≡ input
unreported tree prefix input at said w e =
    let (name, is) = not_reported w input.asks_unset e in
    ap (λ b. record input {
      all_taken = if b then false else input.all_taken;
      refused = refused_by (record { at = at; value = set_text said }) (not_allowed tree (Warns w)) input.refused;
      gone = gone_by prefix said (Warns w) input.gone;
    }) e
    ∙ ap (λ v. record input { refused = refused_by (record { at = at; value = set_text said }) (not_allowed tree (Warns v)) input.refused; gone = gone_by prefix said (Warns v) input.gone }) is

pub untold : (is_raw : Bool) (tree : TreeFacts) (input : UserInput) (at : StreamLocation) (w : Warning) → is_reported input.asks_unset w ≡ false → effect_text is_raw tree input at (Warns w) ≡ []
untold is_raw tree input at w e = ap (λ b. warning_line_if at.stream at.number (if b then Some w else None) ++ []) e

-- the places after an assignment, whose symbol's choice is seen to after it
pub assigned : (tree : TreeFacts) (old mid new : Places) (s : SymId) (given : GivenValue) →
    mid ≡ record { symbols = slice_set old.symbols s.0 (Some given); choices = old.choices } →
    new ≡ record { symbols = mid.symbols; choices = with_member (is_yes given) (choice_of tree s) s mid.choices } →
    new ≡ places_given tree old (record { symbol = s; given = given } ∷ [])
assigned tree old mid new s given set chosen =
    rw (chosen, set) (sym (places_given-one tree old s given))

pub assigned_yes : (tree : TreeFacts) (old mid new : Places) (s : SymId) (given : GivenValue) → is_yes given ≡ true →
    mid ≡ record { symbols = slice_set old.symbols s.0 (Some given); choices = old.choices } →
    new ≡ record { symbols = mid.symbols; choices = with_member true (choice_of tree s) s mid.choices } →
    new ≡ places_given tree old (record { symbol = s; given = given } ∷ [])
assigned_yes tree old mid new s given is_y set chosen = assigned tree old mid new s given set (rw is_y chosen)

pub assigned_no : (tree : TreeFacts) (old mid new : Places) (s : SymId) (given : GivenValue) → is_yes given ≡ false →
    mid ≡ record { symbols = slice_set old.symbols s.0 (Some given); choices = old.choices } → new ≡ mid →
    new ≡ places_given tree old (record { symbol = s; given = given } ∷ [])
assigned_no tree old mid new s given is_other set same = assigned tree old mid new s given set (rw is_other same)
