-- How clap's faults and a prefix that is none are told.
use Rattle.std.proofs.Common.{if◌then◌else◌, not, ◌==◌, ◌<◌, ◌∷◌, Bool, Option, length, arith, ◌≡◌, ◌⊎◌, inl, inr, ◌++◌, List, [], None, Some, refl, ap, sym, subst, ◌∙◌, true, false, codes, string_bytes}
use Rattle.std.specs.Fmt.{decimal, digits}
use Rattle.std.specs.Option.{is_some, option_or}
use Rattle.clap.specs.Words.{App, IsAmong, Kinds, Row, Text, fault_of, first_of}
use Rattle.clap.specs.Kinds.{HasKind}
use Rattle.clap.specs.Faults.{is_simple_and_free}
use Rattle.clap.specs.declared.error.Error.{Error}
use Rattle.clap.specs.declared.error.kind.ErrorKind.{ErrorKind}
use Rattle.clap.specs.declared.error.kind.ErrorKind.TheVariants as kind
use Rattle.kc_language.specs.Text.{longest_prefix}
use Rattle.kc_words.specs.CommandLine.{kconf_app, depth_option, exclusion_of, prefix_option, IsRefused, form_error, goal_error, goal_in, has_value, how_exclusion, is_each, no_number_text, no_prefix_text, number_error, number_of, refusal_of, steps_option, value_error}
use Rattle.kc_language.specs.ConfigFile.{is_prefix}
use Rattle.kc_words.specs.PartsOfCommandLine.{are_exclusive, dead_how_text, dead_of_many_text, exclusion_text, explains_dead, explains_dead_text, explains_how_text, explains_many, explains_many_text, is_dead_of_many, is_one_of_many, lacks_check, lacks_target, no_check_text, one_of_many_text, target_text}
use Rattle.kc_words.specs.Refusals.{IsBadFor, IsErrorOf, IsKindOf, IsNoNumber, IsNoRequest, IsNoValue, IsTold}
use Rattle.kc_words.specs.Inputs.{IsForm}
use Rattle.kc_words.specs.declared.options.Form.{Form}
use Rattle.kc_words.specs.declared.usage.UsageError.{UsageError}
use Rattle.kc_words.specs.declared.usage.UsageError.TheVariants as usage
use Rattle.kc_words.proofs.RowLemmas.{kconf_app-free}

-- the command's faults are those of the words
pub no_fault : (app : App) (words : List Text) → app ≡ kconf_app → (is_simple_and_free app ≡ true → fault_of app words ≡ []) → fault_of kconf_app words ≡ []
no_fault app words is h = ap (λ a. fault_of a words) (sym is) ∙ h (ap is_simple_and_free is ∙ kconf_app-free)

pub has_kind : (app : App) (words : List Text) (e : Error) → app ≡ kconf_app → (is_simple_and_free app ≡ true → HasKind (fault_of app words) e) → HasKind (fault_of kconf_app words) e
has_kind app words e is h = subst (λ (a : App). HasKind (fault_of a words) e) is (h (ap is_simple_and_free is ∙ kconf_app-free))

-- ---- arguments that are refused for what they hold

-- the first of two errors
pub first-error : (a b : Option Text) (u : UsageError) → IsErrorOf a u → IsErrorOf (option_or a b) u
first-error a b (usage.Help t) h = absurd h
first-error a b usage.Version h = absurd h
first-error a b (usage.Bad t) h = rw h refl
first-error a b usage.Memory h = tt

pub next-error : (a b : Option Text) (u : UsageError) → a ≡ None → IsErrorOf b u → IsErrorOf (option_or a b) u
next-error a b (usage.Help t) none h = absurd h
next-error a b usage.Version none h = absurd h
next-error a b (usage.Bad t) none h = rw none h
next-error a b usage.Memory none h = tt

-- values that are no errors
pub form-good : (rows : List Row) (form : Form) → IsForm rows form → form_error rows ≡ None
form-good rows form is = rw (is.prefix_is_one, sym is.explain_depth) refl

pub goal-good : (text : Option Text) (goal : Option (Text × Text)) → is_some goal ≡ is_some text → goal ≡ (elim text [ None ↦ None | Some t ↦ goal_in t ]) → goal_error text ≡ None
goal-good None goal there is = refl
goal-good (Some t) None there is = absurd (let e : false ≡ true = there in cc)
goal-good (Some t) (Some goal) there is = rw (sym is) refl

pub no-number : (option text : Text) (u : UsageError) → IsNoNumber option text u → IsErrorOf (number_error option text) u
no-number option text (usage.Help t) h = absurd h
no-number option text usage.Version h = absurd h
no-number option text (usage.Bad t) h = rw h.0 (ap Some (sym h.1))
no-number option text usage.Memory h = tt

pub depth-bad : (rows : List Row) (u : UsageError) → is_prefix (prefix_option rows) ≡ true → IsNoNumber (codes "--explain-depth") (depth_option rows) u → IsErrorOf (form_error rows) u
depth-bad rows u good bad = rw good (no-number (codes "--explain-depth") (depth_option rows) u bad)

pub ruleset two_errors = (first-error, next-error, form-good, goal-good)

pub no_value-no_request : (rows : List Row) (u : UsageError) → exclusion_of rows ≡ None → IsNoValue rows u → IsNoRequest rows u
no_value-no_request rows (usage.Help t) apart h = absurd h
no_value-no_request rows usage.Version apart h = absurd h
no_value-no_request rows (usage.Bad t) apart h = rw apart h
no_value-no_request rows usage.Memory apart h = tt

pub excluded-no_request : (rows : List Row) (text : Text) (u : UsageError) → exclusion_of rows ≡ Some text → IsBadFor text u → IsNoRequest rows u
excluded-no_request rows text (usage.Help t) is h = absurd h
excluded-no_request rows text usage.Version is h = absurd h
excluded-no_request rows text (usage.Bad t) is h = rw is (ap Some (sym h))
excluded-no_request rows text usage.Memory is h = tt

pub refused_request : (kinds : Kinds) (p q : List Row) → kinds ≡ [] → p ≡ q → (u : UsageError) → IsNoRequest p u → IsRefused kinds q u
refused_request kinds p q none same (usage.Help t) h = absurd h
refused_request kinds p q none same usage.Version h = absurd h
refused_request kinds p q none same (usage.Bad t) h = inr (none, subst (λ (x : List Row). IsNoRequest x (usage.Bad t)) same h)
refused_request kinds p q none same usage.Memory h = tt

pub only_memory : (p q : List Row) → p ≡ q → refusal_of q ≡ None → (u : UsageError) → IsNoRequest p u → u ≡ usage.Memory
only_memory p q same good (usage.Help t) h = absurd h
only_memory p q same good usage.Version h = absurd h
only_memory p q same good (usage.Bad t) h = absurd (let e : None ≡ Some (string_bytes t) = sym good ∙ ap refusal_of (sym same) ∙ h in cc)
only_memory p q same good usage.Memory h = λ i. usage.Memory

pub refused_words : (kinds : Kinds) (rows : List Row) (k : ErrorKind) (u : UsageError) → (k ≡ kind.OutOfMemory) ⊎ IsAmong k kinds → IsKindOf k u → IsRefused kinds rows u
refused_words kinds rows k (usage.Help t) (inl m) is = absurd (let e : kind.OutOfMemory ≡ kind.DisplayHelp = sym m ∙ is in cc)
refused_words kinds rows k (usage.Help t) (inr among) is = subst (λ (x : ErrorKind). IsAmong x kinds) is among
refused_words kinds rows k usage.Version (inl m) is = absurd (let e : kind.OutOfMemory ≡ kind.DisplayVersion = sym m ∙ is in cc)
refused_words kinds rows k usage.Version (inr among) is = subst (λ (x : ErrorKind). IsAmong x kinds) is among
refused_words kinds rows k (usage.Bad t) (inl m) is = absurd (is.2 m)
refused_words kinds rows k (usage.Bad t) (inr among) is = inl (k, is.0, is.1, among)
refused_words kinds rows k usage.Memory among is = tt

-- ---- what is told of a prefix that is none

longest-written : decimal longest_prefix ≡ codes "64"
unfolding digits
longest-written = refl

pub written-text : (text : Text) → codes "error: invalid value '" ++ text
    ++ codes "' for '--prefix <TEXT>': at most 64 letters, digits and _, of which the first is no digit\n\nFor more information, try '--help'.\n" ≡ no_prefix_text text
written-text text = rw longest-written refl

pub written-number : (option text : Text) → codes "error: invalid value '" ++ (text ++ (codes "' for '" ++ (option
    ++ codes " <N>': a decimal number below 2^63\n\nFor more information, try '--help'.\n"))) ≡ no_number_text option text
written-number option text = refl

-- ---- what is told is not empty

positive : (e : Text) → (length e == 0) ≡ false → 0 < length e
positive [] h = absurd (let x : true ≡ false = h in cc)
positive (x ∷ xs) h = omega arith

front : (x y : Text) → 0 < length x → 0 < length (x ++ y)
front [] y h = absurd (omega arith)
front (x ∷ xs) y h = omega arith

long : (e t : Text) → Some e ≡ Some t → 0 < length e → 0 < length t
long e t is h = let same : e ≡ t = cc in subst (λ (x : Text). 0 < length x) same h

told_how : (h x d : Bool) (t : Text)
    → (if not h then None else if x then Some explains_how_text else if d then Some dead_how_text else None) ≡ Some t → 0 < length t
told_how false x d t h = absurd (cc)
told_how true true d t h = long explains_how_text t h (positive explains_how_text refl)
told_how true false true t h = long dead_how_text t h (positive dead_how_text refl)
told_how true false false t h = absurd (cc)

-- an error, if there is one, has a text
abbrev AreTold : Option Text → Type 0
AreTold o = (t : Text) → o ≡ Some t → 0 < length t

told_exclusion : (a n b d m x e : Bool) (o : Option Text) → AreTold o
    → AreTold (if a then Some exclusion_text else if n then Some no_check_text else if b then Some one_of_many_text else if d then Some explains_many_text
    else if m then Some dead_of_many_text else if x then Some explains_dead_text else if e then Some target_text else o)
told_exclusion true n b d m x e o rest t h = long exclusion_text t h (positive exclusion_text refl)
told_exclusion false true b d m x e o rest t h = long no_check_text t h (positive no_check_text refl)
told_exclusion false false true d m x e o rest t h = long one_of_many_text t h (positive one_of_many_text refl)
told_exclusion false false false true m x e o rest t h = long explains_many_text t h (positive explains_many_text refl)
told_exclusion false false false false true x e o rest t h = long dead_of_many_text t h (positive dead_of_many_text refl)
told_exclusion false false false false false true e o rest t h = long explains_dead_text t h (positive explains_dead_text refl)
told_exclusion false false false false false false true o rest t h = long target_text t h (positive target_text refl)
told_exclusion false false false false false false false o rest t h = rest t h

invalid : (text t : Text) → Some (codes "error: invalid value '" ++ text) ≡ Some t → 0 < length t
invalid text t h = long (codes "error: invalid value '" ++ text) t h (front (codes "error: invalid value '") text (positive (codes "error: invalid value '") refl))

told_if : (b : Bool) (text : Text) → AreTold (if b then None else Some (codes "error: invalid value '" ++ text))
told_if true text t h = absurd (cc)
told_if false text t h = invalid text t h

told_number : (option d : Text) → AreTold (number_error option d)
told_number option d = told_if (is_some (number_of d)) _

told_form : (p d : Text) (b : Bool) → AreTold (if b then number_error (codes "--explain-depth") d else Some (no_prefix_text p))
told_form p d true t h = told_number (codes "--explain-depth") d t h
told_form p d false t h = invalid _ t h

told_goal : (o : Option Text) → AreTold (goal_error o)
told_goal None t h = absurd (cc)
told_goal (Some text) t h = told_if (is_some (goal_in text)) _ t h

told_or : (a b : Option Text) → AreTold a → AreTold b → AreTold (option_or a b)
told_or None b one two = two
told_or (Some text) b one two = one

told_value : (rows : List Row) → AreTold (value_error rows)
told_value rows = told_or _ _ (told_form (prefix_option rows) (depth_option rows) (is_prefix (prefix_option rows)))
    (told_or _ _ (told_goal (first_of (codes "how") rows)) (told_number (codes "--how-steps") (steps_option rows)))

told_excluded : (rows : List Row) → AreTold (exclusion_of rows)
told_excluded rows = told_exclusion (are_exclusive rows) (lacks_check rows) (is_one_of_many rows) (explains_many rows) (is_dead_of_many rows) (explains_dead rows) (lacks_target rows)
    (how_exclusion rows) (told_how (has_value (codes "how") rows) (has_value (codes "explain") rows) (has_value (codes "list-dead") rows))

pub told-request : (rows : List Row) (u : UsageError) → IsNoRequest rows u → IsTold u
told-request rows (usage.Help t) h = tt
told-request rows usage.Version h = tt
told-request rows (usage.Bad t) h = told_or _ _ (told_excluded rows) (told_value rows) (string_bytes t) h
told-request rows usage.Memory h = tt
