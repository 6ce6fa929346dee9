-- Trusted: 14. Files: the path of a file, and the syntax of a dependency file, which is GNU make's. Our own but for this.
use Rattle.std.specs.{List.{list_any}, Option.{option_map_or}, Prelude.{[], Bool, List, codes, false, flat_map, if◌then◌else◌, length, map, nat_le, not, slice_get, true, ℕ, ◌&&◌, ◌++◌, ◌-◌, ◌==◌, ◌||◌, ◌∷◌}}
use Rattle.kc_language.specs.{Expressions.{same_name}, Text.{byte}, declared.files.Position.{Position}}

-- the path of a file: DIR/NAME, or the name itself if it begins with `/`
abbrev pub begins_with_slash : List ℕ → Bool
begins_with_slash name = elim name [ [] ↦ false | b ∷ rest ↦ b == byte "/" ]

abbrev pub path_of : List ℕ → List ℕ → List ℕ
path_of dir name = if begins_with_slash name then name else dir ++ byte "/" ∷ name

-- Make gives these bytes a meaning at this position, unless a `\` precedes them.
abbrev pub is_special : Position → ℕ → Bool
is_special at b = b == byte " " || b == byte "\t" || b == byte "#" || b == byte ":"
    || elim at [ Position.Target ↦ b == byte "%" | Position.Prerequisite ↦ b == byte "|" ]

-- A `\` is written before such a byte, and before each `\` that only `\`s separate from such a byte or from the end of the name. `$` is doubled.
abbrev pub needs_backslash : Position → List ℕ → Bool
needs_backslash at [] = true
needs_backslash at (b ∷ rest) = if b == byte "\\" then needs_backslash at rest else is_special at b

abbrev pub escaped : Position → List ℕ → List ℕ
escaped at [] = []
escaped at (b ∷ rest) =
    ((if needs_backslash at (b ∷ rest) then codes "\\" else []) ++ (if b == byte "$" then codes "$" else []) ++ b ∷ []) ++ escaped at rest

-- the rule of `out` with each prerequisite on a line of its own, and an empty rule for each; ` |` closes a rule that would end in `\`
abbrev pub ends_in : List ℕ → List ℕ → Bool
ends_in bytes text = option_map_or (λ last. list_any (λ b. b == last) bytes) (slice_get text (length text - 1)) false

abbrev pub rule_text : List ℕ → List (List ℕ) → List ℕ
rule_text out names =
    let rule = escaped Position.Target out ++ codes ":" ++ flat_map (λ name. codes " \\\n " ++ escaped Position.Prerequisite name) names in
    (rule ++ (if ends_in (codes "\\") rule then codes " |" else [])) ++ codes "\n"
    ++ flat_map (λ name. codes "\n" ++ escaped Position.Target name ++ codes ":\n") names

-- Make reads the name correctly in every position of a rule: it holds no NUL, no white space but ` ` and none of `=;*?[`, and ends in none of ` &)`.
-- Without each `./` at its start, which make ignores, it is no home folder (`~`), no library (`-lNAME`) and no special target.
abbrev pub special_targets : List (List ℕ)
special_targets = map codes (".DEFAULT" ∷ ".DELETE_ON_ERROR" ∷ ".EXPORT_ALL_VARIABLES" ∷ ".IGNORE" ∷ ".INTERMEDIATE" ∷ ".LOW_RESOLUTION_TIME"
    ∷ ".NOTINTERMEDIATE" ∷ ".NOTPARALLEL" ∷ ".ONESHELL" ∷ ".PHONY" ∷ ".POSIX" ∷ ".PRECIOUS" ∷ ".SECONDARY" ∷ ".SECONDEXPANSION" ∷ ".SILENT"
    ∷ ".SUFFIXES" ∷ ".WAIT" ∷ [])

abbrev pub without_dots : Bool → List ℕ → List ℕ
without_dots behind_dot [] = []
without_dots behind_dot (b ∷ rest) =
    if b == byte "/" && behind_dot || b == byte "." && begins_with_slash rest then without_dots true rest else b ∷ rest

abbrev pub is_library : List ℕ → Bool
is_library name = elim name [ b ∷ c ∷ rest ↦ b == byte "-" && c == byte "l" | _ ↦ false ]

abbrev pub is_plain : List ℕ → Bool
is_plain [] = false
is_plain (b ∷ rest) = not (b == byte "~") && not (is_library (b ∷ rest)) && not (list_any (same_name (b ∷ rest)) special_targets)

abbrev pub is_read_by_make : List ℕ → Bool
is_read_by_make name = not (list_any (λ b. b == 0 || nat_le 9 b && nat_le b 13 || list_any (λ c. c == b) (codes "=;*?[")) name)
    && not (ends_in (codes " &)") name) && is_plain (without_dots false name)
