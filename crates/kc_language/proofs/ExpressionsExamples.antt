-- Examples for the chapter Expressions: an expression from its tokens to its value, a lone `m`, and relations.
use Rattle.std.proofs.Common.{refl, ◌≡◌}
use Rattle.std.specs.{Prelude.{List, None, Some, [], codes, false, if◌then◌else◌, map, true, ℕ, ◌==◌, ◌∷◌}, declared.cmp.Ordering.TheVariants.{Equal, Greater, Less}}
use Rattle.kc_language.specs.{Expressions.{Disjunction, Every, Form, LoneM, Negated, Related, Single, Symbol, SymbolValue, Text, TextValue, Truth, WordAtom, bang, compare, compared, conjunction, forms, joined, lone, meaning, names_in, negation, number_of, only, spell, symbol, terminal_of, value}, Text.natural_of, Tokens.{AWord, AnOp, Lexeme}, declared.expressions.{SymId.SymId, SymbolType.TheVariants.{Hex, Int, Str}, Tri.{TheVariants.{M, N, Y}, Tri}}}
use Rattle.kc_language.specs.declared.tokens.Op.TheVariants as op

-- ---- `A && !B = y`

-- The six tokens, and their derivation: `&&` joins two parts, and `!` stands before a relation.
abbrev tokens : List Lexeme
tokens = AWord (codes "A") ∷ AnOp op.And ∷ AnOp op.Not ∷ AWord (codes "B") ∷ AnOp op.Eq ∷ AWord (codes "y") ∷ []

abbrev derivation : Disjunction
derivation = only (conjunction (joined (negation (lone (WordAtom (codes "A"))))
    (only (negation (bang (compare op.Eq (WordAtom (codes "B")) (WordAtom (codes "y"))))))))

derives_the_tokens : spell derivation ≡ map terminal_of tokens
derives_the_tokens = refl

-- It mentions the names A and B, in this order. The word y is a constant.
abbrev names : List (List ℕ)
names = codes "A" ∷ codes "B" ∷ []

mentions_A_and_B : names_in derivation ≡ names
mentions_A_and_B = refl

-- So A is symbol 0, B is symbol 1, and the `!` applies to the whole relation: it means `A && !(B = y)`.
abbrev form : Form
form = Every (forms (Single (Symbol (symbol 0)) ∷ Negated (Related op.Eq (Symbol (symbol 1)) (Text (codes "y"))) ∷ []))

means_the_form : meaning false (number_of names) derivation ≡ form
means_the_form = refl

-- With A=m and B=n the relation is n, `!` makes it y, and `&&` gives the lesser value, m.
abbrev when : Tri → Tri → SymId → SymbolValue
when a b s = Truth (if s.0 == 0 then a else b)

value_where_B_is_n : value (when M N) None form ≡ M
value_where_B_is_n = refl

-- ---- A lone `m` of a condition

-- In `depends on m` the word m is a lone `m`. In `default m` it is the constant.
abbrev word_m : Disjunction
word_m = only (conjunction (only (negation (lone (WordAtom (codes "m"))))))

m_in_a_condition : meaning true (number_of names) word_m ≡ LoneM
m_in_a_condition = refl

m_in_a_value : meaning false (number_of names) word_m ≡ Single (Text (codes "m"))
m_in_a_value = refl

-- A lone `m` is m if the modules symbol is y.
lone_m_with_modules : value (when Y N) (Some (symbol 0)) LoneM ≡ M
lone_m_with_modules = refl

-- ---- Relations of numbers and of texts

-- As ints, 9 is less than 10. As strings, "9" is greater than "10": the bytes are compared.
abbrev texts : SymbolValue → SymbolValue → SymId → SymbolValue
texts v w s = if s.0 == 0 then v else w

ints_compare_as_numbers : compared (texts (TextValue Int (codes "9")) (TextValue Int (codes "10"))) (Symbol (symbol 0)) (Symbol (symbol 1)) ≡ Less
unfolding natural_of
ints_compare_as_numbers = refl

strings_compare_as_texts : compared (texts (TextValue Str (codes "9")) (TextValue Str (codes "10"))) (Symbol (symbol 0)) (Symbol (symbol 1)) ≡ Greater
strings_compare_as_texts = refl

-- A hex symbol with the text "10" is the number 16.
hex_equals_int : compared (texts (TextValue Hex (codes "10")) (TextValue Int (codes "16"))) (Symbol (symbol 0)) (Symbol (symbol 1)) ≡ Equal
unfolding natural_of
hex_equals_int = refl
