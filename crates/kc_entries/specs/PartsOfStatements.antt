-- Trusted: Parts of the definitions of Statements, with names of their own.
use Rattle.std.specs.{List.{filter, list_any}, Map.lookup, Prelude.{Bool, Err, List, None, Ok, Option, Result, Some, [], codes, drop, false, if◌then◌else◌, length, nat_le, true, ℕ, ◌==◌, ◌||◌, ◌∷◌, ◌≡◌, ◌⊎◌}}
use Rattle.kc_language.specs.{Expressions.{Disjunction, Form, if_word, same_name}, Statements.{After, Cause, ChoiceLine, ConfigLine, DependsLine, Front, IsMore, LineContext, Named, RangeLine, ReadsCondition, ReadsPrompt, ReadsRest, ReadsWhole, StartsExpression, TypeLine, VisibleLine, begins_with, finish, in_place, is_good_name, keyword_words, named_target, operand_of, placement_cause, word_of}, Text.byte, Tokens.Lexeme, declared.{expressions.SymbolType.SymbolType, statements.{EntryKind.EntryKind, Keyword.Keyword}}}
use Rattle.kc_expr.specs.PartsOfExpressions.{meaning_or}
use Rattle.kc_language.specs.declared.diagnostics.Cause.TheVariants as cause
use Rattle.kc_language.specs.declared.expressions.SymbolType.TheVariants as symbol_type
use Rattle.kc_language.specs.declared.statements.Keyword.TheVariants as key

-- the expression of a value, in which a lone m is the constant m
abbrev pub value_form : (List ℕ → ℕ) → Disjunction → Form
value_form number d = meaning_or false number d

-- the keyword of a word in a table of words with their keywords
abbrev pub keyword_in : List (List ℕ × Keyword) → List ℕ → Option Keyword
keyword_in keywords w = lookup (same_name w) keywords

-- words that are also used outside the table of words
abbrev pub source_word : List ℕ
source_word = codes "source"

abbrev pub modules_word : List ℕ
modules_word = codes "modules"

abbrev pub help_word : List ℕ
help_word = codes "help"

-- the older spelling of `help`
abbrev pub old_help_word : List ℕ
old_help_word = codes "---help---"

-- the words that may begin a line and whose length passes the test
abbrev pub words_of_length : (ℕ → Bool) → List (List ℕ × Keyword)
words_of_length passes = filter (λ k. passes (length k.0)) keyword_words

abbrev pub short_words : List (List ℕ × Keyword)
short_words = words_of_length (λ n. nat_le n 4)

abbrev pub five_words : List (List ℕ × Keyword)
five_words = words_of_length (λ n. n == 5)

abbrev pub six_words : List (List ℕ × Keyword)
six_words = words_of_length (λ n. n == 6)

abbrev pub seven_words : List (List ℕ × Keyword)
seven_words = words_of_length (λ n. n == 7)

abbrev pub eight_words : List (List ℕ × Keyword)
eight_words = words_of_length (λ n. n == 8)

abbrev pub long_words : List (List ℕ × Keyword)
long_words = words_of_length (λ n. nat_le 9 n)

-- the kinds of an entry: a menu's; any of a symbol's, a choice's, a menu's or a comment's
abbrev pub is_menu : EntryKind → Bool
is_menu e = elim e [ EntryKind.Menu ↦ true | _ ↦ false ]

abbrev pub is_entry : EntryKind → Bool
is_entry e = elim e [ EntryKind.Nothing ↦ false | _ ↦ true ]

-- an expression up to the end of the line
abbrev pub IsWhole : List Lexeme → Disjunction → Type 0
IsWhole ts d = StartsExpression ts (record { tree = d; rest = [] })

-- the word w must be next; the tokens after it
abbrev pub expected : List ℕ → List Lexeme → Result (List Lexeme) Cause
expected w ts = if begins_with w ts then Ok (drop 1 ts) else Err cause.Syntax

abbrev pub front : Disjunction → List Lexeme → Front
front d rest = record { tree = d; rest = rest }

-- whether the text has a `*`, `?` or `[`
abbrev pub is_pattern : List ℕ → Bool
is_pattern t = list_any (λ b. b == byte "*" || b == byte "?" || b == byte "[") t

abbrev pub good_name : List ℕ → Result Named Cause
good_name w = if is_good_name w then Ok (ConfigLine w) else Err (cause.BadName w)

abbrev pub ReadsConfig : List Lexeme → Result Named Cause → Type 0
ReadsConfig ts =
    After (word_of ts) (λ w. After (finish w (drop 1 ts)) (λ v r. r ≡ (if is_good_name v then Ok (ConfigLine v) else Err (cause.BadName v))))

abbrev pub choice_line : List Lexeme → Result Named Cause
choice_line = elim [ [] ↦ Ok ChoiceLine | _ ↦ Err (cause.LeftOut (codes "named choice")) ]

-- a type: nothing, or the same as `prompt`
abbrev pub ReadsType : SymbolType → List Lexeme → Result Named Cause → Type 0
ReadsType k ts r = ((ts ≡ []) × (r ≡ Ok (TypeLine k None))) ⊎ (IsMore ts × ReadsPrompt (λ p. TypeLine k (Some p)) ts r)

-- `select`, `imply`: a name and a condition
abbrev pub ReadsTarget : (List ℕ → Option Disjunction → Named) → List Lexeme → Result Named Cause → Type 0
ReadsTarget make ts = After (named_target ts) (λ t. ReadsCondition (make t) (drop 1 ts))

abbrev pub ReadsDepends : List Lexeme → Result Named Cause → Type 0
ReadsDepends ts r = After (expected (codes "on") ts) (λ us. ReadsWhole DependsLine us) r

abbrev pub ReadsVisible : List Lexeme → Result Named Cause → Type 0
ReadsVisible ts r = After (expected if_word ts) (λ us. ReadsWhole VisibleLine us) r

abbrev pub ReadsRange : List Lexeme → Result Named Cause → Type 0
ReadsRange ts = After (operand_of ts) (λ a. After (operand_of (drop 1 ts)) (λ b. ReadsCondition (RangeLine a b) (drop 2 ts)))

-- the placement is checked first, and then the rest is read
abbrev pub ReadsPlaced : LineContext → List ℕ → List Lexeme → Keyword → Result Named Cause → Type 0
ReadsPlaced c w ts k r = After (in_place k (placement_cause c w ts k)) (λ j. ReadsRest w j ts) r
