-- What a line says and does: only a line that says nothing is silent, and what has a value has a type.
use Rattle.std.proofs.Common.{◌≡◌, ◌≢◌, true, Bool, List, ℕ, Option, Some, None, refl, subst}
use Rattle.kc_language.specs.ConfigFile.{Assigns, Line, LineMeaning, Malformed, Notation, Nothing, Set, Silent, Unset, effect, effect_of, is_reported, line_meaning, set_by_type, symbol_named, unset_by_type}
use Rattle.kc_language.specs.Symbols.{SymbolFacts, TreeFacts, Warning}
use Rattle.kc_language.specs.Values.{GivenValue, facts, type_in}
use Rattle.kc_language.specs.declared.diagnostics.Warning.TheVariants as warning
use Rattle.kc_language.specs.declared.expressions.SymId.{SymId}
use Rattle.kc_language.specs.declared.expressions.SymbolType.{SymbolType}
use Rattle.kc_language.specs.declared.expressions.SymbolType.TheVariants as symbol_type
use Rattle.kc_input.specs.PartsOfConfigFile.{assigned_or, line_value, set_effect, unset_effect}

pub effect_is : (tree : TreeFacts) (prefix : Notation) (l : Line) → effect_of prefix.is_raw tree (line_meaning tree prefix l) ≡ effect tree prefix l
unfolding effect
effect_is tree prefix l = refl

-- if it is asked for, each warning is reported
pub all_reported : (w : Warning) → is_reported true w ≡ true
all_reported (warning.TypeRedefined name) = refl
all_reported (warning.PromptRedefined name) = refl
all_reported (warning.WithoutType name) = refl
all_reported (warning.TextTarget name word) = refl
all_reported (warning.DefaultNotMember name) = refl
all_reported (warning.MemberTarget name word) = refl
all_reported (warning.UnknownSymbol name) = refl
all_reported (warning.NotAllowed name) = refl
all_reported warning.MalformedLine = refl
all_reported (warning.SetAgain name) = refl
all_reported (warning.Selected name selected_to direct) = refl
all_reported (warning.UserOutside name value low high) = refl
all_reported (warning.DefaultOutside name value low high used) = refl
all_reported (warning.Lost name given value) = refl
all_reported (warning.LostWithoutPrompt name given value) = refl
all_reported (warning.Changed name old file line new) = refl
all_reported (warning.TextUnset name) = refl

-- ---- a silent line
or_silent : (name : List ℕ) (s : SymId) (o : Option GivenValue) → assigned_or name s o ≡ Silent → ⊥
or_silent name s None e = cc
or_silent name s (Some given) e = cc

set_silent : (is_raw : Bool) (name text : List ℕ) (s : SymId) (k : SymbolType) → set_by_type is_raw name s text k ≡ Silent → ⊥
set_silent is_raw name text s symbol_type.Undefined e = cc
set_silent is_raw name text s symbol_type.Bool e = or_silent name s (line_value is_raw symbol_type.Bool text) e
set_silent is_raw name text s symbol_type.Tristate e = or_silent name s (line_value is_raw symbol_type.Tristate text) e
set_silent is_raw name text s symbol_type.Str e = or_silent name s (line_value is_raw symbol_type.Str text) e
set_silent is_raw name text s symbol_type.Int e = or_silent name s (line_value is_raw symbol_type.Int text) e
set_silent is_raw name text s symbol_type.Hex e = or_silent name s (line_value is_raw symbol_type.Hex text) e

unset_silent : (name : List ℕ) (s : SymId) (k : SymbolType) → unset_by_type name s k ≡ Silent → ⊥
unset_silent name s symbol_type.Undefined e = cc
unset_silent name s symbol_type.Bool e = cc
unset_silent name s symbol_type.Tristate e = cc
unset_silent name s symbol_type.Str e = cc
unset_silent name s symbol_type.Int e = cc
unset_silent name s symbol_type.Hex e = cc

-- ---- an assignment
abbrev Typed : TreeFacts → SymId → Type 0
Typed tree s = (f : SymbolFacts) × (facts tree s ≡ Some f) × (f.symbol_type ≢ symbol_type.Undefined)

untyped : (tree : TreeFacts) (s : SymId) (o : Option SymbolFacts) → facts tree s ≡ o → (type_in o ≡ symbol_type.Undefined → ⊥) → Typed tree s
untyped tree s None is typed = absurd (typed refl)
untyped tree s (Some f) is typed = (f, is, typed)

or_same : (name : List ℕ) (s t : SymId) (o : Option GivenValue) (g : GivenValue) → assigned_or name s o ≡ Assigns t g → s ≡ t
or_same name s t None g e = cc
or_same name s t (Some h) g e = cc

set_assigns : (is_raw : Bool) (name text : List ℕ) (s t : SymId) (k : SymbolType) (g : GivenValue) → set_by_type is_raw name s text k ≡ Assigns t g → (s ≡ t) × (k ≢ symbol_type.Undefined)
set_assigns is_raw name text s t symbol_type.Undefined g e = cc
set_assigns is_raw name text s t symbol_type.Bool g e = (or_same name s t (line_value is_raw symbol_type.Bool text) g e, λ u. cc)
set_assigns is_raw name text s t symbol_type.Tristate g e = (or_same name s t (line_value is_raw symbol_type.Tristate text) g e, λ u. cc)
set_assigns is_raw name text s t symbol_type.Str g e = (or_same name s t (line_value is_raw symbol_type.Str text) g e, λ u. cc)
set_assigns is_raw name text s t symbol_type.Int g e = (or_same name s t (line_value is_raw symbol_type.Int text) g e, λ u. cc)
set_assigns is_raw name text s t symbol_type.Hex g e = (or_same name s t (line_value is_raw symbol_type.Hex text) g e, λ u. cc)

unset_assigns : (name : List ℕ) (s t : SymId) (k : SymbolType) (g : GivenValue) → unset_by_type name s k ≡ Assigns t g → (s ≡ t) × (k ≢ symbol_type.Undefined)
unset_assigns name s t symbol_type.Undefined g e = cc
unset_assigns name s t symbol_type.Bool g e = (cc, λ u. cc)
unset_assigns name s t symbol_type.Tristate g e = (cc, λ u. cc)
unset_assigns name s t symbol_type.Str g e = cc
unset_assigns name s t symbol_type.Int g e = cc
unset_assigns name s t symbol_type.Hex g e = cc

module _ (is_raw : Bool) (tree : TreeFacts) where
  set_found : (name text : List ℕ) (found : Option SymId) → set_effect is_raw tree name text found ≡ Silent → ⊥
  set_found name text None e = cc
  set_found name text (Some s) e = set_silent is_raw name text s (type_in (facts tree s)) e

  unset_found : (name : List ℕ) (found : Option SymId) → unset_effect tree name found ≡ Silent → ⊥
  unset_found name None e = cc
  unset_found name (Some s) e = unset_silent name s (type_in (facts tree s)) e

  -- only a line that says nothing is silent
  pub silent_says : (said : LineMeaning) → effect_of is_raw tree said ≡ Silent → said ≡ Nothing
  silent_says Nothing e = refl
  silent_says (Unset name) e = absurd (unset_found name (symbol_named tree name) e)
  silent_says (Set name text) e = absurd (set_found name text (symbol_named tree name) e)
  silent_says Malformed e = cc

  typed_of : (s t : SymId) → (s ≡ t) × (type_in (facts tree s) ≢ symbol_type.Undefined) → Typed tree t
  typed_of s t (same, typed) = subst (Typed tree) same (untyped tree s (facts tree s) refl typed)

  set_typed : (name text : List ℕ) (found : Option SymId) (t : SymId) (g : GivenValue) → set_effect is_raw tree name text found ≡ Assigns t g → Typed tree t
  set_typed name text None t g e = cc
  set_typed name text (Some s) t g e = typed_of s t (set_assigns is_raw name text s t (type_in (facts tree s)) g e)

  unset_typed : (name : List ℕ) (found : Option SymId) (t : SymId) (g : GivenValue) → unset_effect tree name found ≡ Assigns t g → Typed tree t
  unset_typed name None t g e = cc
  unset_typed name (Some s) t g e = typed_of s t (unset_assigns name s t (type_in (facts tree s)) g e)

  -- a symbol that a line gives a value has a type
  pub assigned_typed : (said : LineMeaning) (t : SymId) (g : GivenValue) → effect_of is_raw tree said ≡ Assigns t g → Typed tree t
  assigned_typed Nothing t g e = cc
  assigned_typed (Unset name) t g e = unset_typed name (symbol_named tree name) t g e
  assigned_typed (Set name text) t g e = set_typed name text (symbol_named tree name) t g e
  assigned_typed Malformed t g e = cc
