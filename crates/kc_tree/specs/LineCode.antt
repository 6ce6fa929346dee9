-- For proofs: How the logic encodes the lines of a tree, so that a model may have them as its value.
use Rattle.std.specs.{Coded.{Coded, code_by, coded_option, coded_ℕ, coded×}, Prelude.{List, Option, refl, ℕ, ◌≡◌}}
use Rattle.std.proofs.Common.{ap}
use base.Stored.{Gv, gnil, gnum, gcons}
use Rattle.kc_language.specs.contracts.expressions.SymId as sym_id
use Rattle.kc_language.specs.contracts.expressions.SymbolType as symbol_type
use Rattle.kc_language.specs.{Expressions.Form, Statements.{ChoiceLine, CommentLine, ConfigLine, DefLine, DefaultLine, DependsLine, EndChoiceLine, EndIfLine, EndMenuLine, HelpLine, IfLine, IgnoredLine, ImplyLine, InputPrompt, Located, MainMenuLine, MenuLine, ModulesLine, Numbered, PromptLine, RangeLine, SelectLine, SourceLine, TypeLine, VisibleLine}}
use Rattle.kc_expr.specs.FormCode.{bytes_code, form_code, head, leaf_code, tail}

abbrev when_code : Coded (Option Form)
when_code = coded_option form_code

abbrev prompt_code : Coded (InputPrompt Form)
prompt_code = code_by (List ℕ × Option Form) (coded× bytes_code when_code) (λ p. (p.text, p.when)) (λ p. record { text = p.0; when = p.1 }) (λ _. refl)

abbrev asked_code : Coded (Option (InputPrompt Form))
asked_code = coded_option prompt_code

abbrev tagged : ℕ → Gv → Gv
tagged n g = gcons (gnum n) g

abbrev pub store : Numbered → Gv
store (ConfigLine s) = tagged 0 (sym_id.the_row.coded.code s)
store (IfLine e) = tagged 1 (form_code.code e)
store EndIfLine = tagged 2 gnil
store (CommentLine t) = tagged 3 (bytes_code.code t)
store (SourceLine t) = tagged 4 (bytes_code.code t)
store (MenuLine t) = tagged 5 (bytes_code.code t)
store EndMenuLine = tagged 6 gnil
store ChoiceLine = tagged 7 gnil
store EndChoiceLine = tagged 8 gnil
store (MainMenuLine t) = tagged 9 (bytes_code.code t)
store (TypeLine k p) = tagged 10 (gcons (symbol_type.the_row.coded.code k) (asked_code.code p))
store (PromptLine p) = tagged 11 (prompt_code.code p)
store (DefaultLine e w) = tagged 12 (gcons (form_code.code e) (when_code.code w))
store (DefLine k e w) = tagged 13 (gcons (symbol_type.the_row.coded.code k) (gcons (form_code.code e) (when_code.code w)))
store (DependsLine e) = tagged 14 (form_code.code e)
store (VisibleLine e) = tagged 15 (form_code.code e)
store (SelectLine s w) = tagged 16 (gcons (sym_id.the_row.coded.code s) (when_code.code w))
store (ImplyLine s w) = tagged 17 (gcons (sym_id.the_row.coded.code s) (when_code.code w))
store (RangeLine a b w) = tagged 18 (gcons (leaf_code.code a) (gcons (leaf_code.code b) (when_code.code w)))
store HelpLine = tagged 19 gnil
store ModulesLine = tagged 20 gnil
store IgnoredLine = tagged 21 gnil

abbrev first : Gv → Gv
first g = head (tail g)

abbrev rest : Gv → Gv
rest g = tail (tail g)

pub store_inj : (x y : Numbered) → store x ≡ store y → x ≡ y
store_inj (ConfigLine s) (ConfigLine t) p = ap ConfigLine (sym_id.the_row.coded.inj s t (ap tail p))
store_inj (IfLine e) (IfLine f) p = ap IfLine (form_code.inj e f (ap tail p))
store_inj EndIfLine EndIfLine p = refl
store_inj (CommentLine s) (CommentLine t) p = ap CommentLine (bytes_code.inj s t (ap tail p))
store_inj (SourceLine s) (SourceLine t) p = ap SourceLine (bytes_code.inj s t (ap tail p))
store_inj (MenuLine s) (MenuLine t) p = ap MenuLine (bytes_code.inj s t (ap tail p))
store_inj EndMenuLine EndMenuLine p = refl
store_inj ChoiceLine ChoiceLine p = refl
store_inj EndChoiceLine EndChoiceLine p = refl
store_inj (MainMenuLine s) (MainMenuLine t) p = ap MainMenuLine (bytes_code.inj s t (ap tail p))
store_inj (TypeLine j p) (TypeLine k q) h = λ i. TypeLine (symbol_type.the_row.coded.inj j k (ap first h) i) (asked_code.inj p q (ap rest h) i)
store_inj (PromptLine p) (PromptLine q) h = ap PromptLine (prompt_code.inj p q (ap tail h))
store_inj (DefaultLine e v) (DefaultLine f w) h = λ i. DefaultLine (form_code.inj e f (ap first h) i) (when_code.inj v w (ap rest h) i)
store_inj (DefLine j e v) (DefLine k f w) h = λ i.
    DefLine (symbol_type.the_row.coded.inj j k (ap first h) i) (form_code.inj e f (ap (λ g. head (rest g)) h) i) (when_code.inj v w (ap (λ g. tail (rest g)) h) i)
store_inj (DependsLine e) (DependsLine f) p = ap DependsLine (form_code.inj e f (ap tail p))
store_inj (VisibleLine e) (VisibleLine f) p = ap VisibleLine (form_code.inj e f (ap tail p))
store_inj (SelectLine s v) (SelectLine t w) h = λ i. SelectLine (sym_id.the_row.coded.inj s t (ap first h) i) (when_code.inj v w (ap rest h) i)
store_inj (ImplyLine s v) (ImplyLine t w) h = λ i. ImplyLine (sym_id.the_row.coded.inj s t (ap first h) i) (when_code.inj v w (ap rest h) i)
store_inj (RangeLine a b v) (RangeLine c d w) h = λ i.
    RangeLine (leaf_code.inj a c (ap first h) i) (leaf_code.inj b d (ap (λ g. head (rest g)) h) i) (when_code.inj v w (ap (λ g. tail (rest g)) h) i)
store_inj HelpLine HelpLine p = refl
store_inj ModulesLine ModulesLine p = refl
store_inj IgnoredLine IgnoredLine p = refl
store_inj _ _ p = cc

abbrev pub statement_code : Coded Numbered
statement_code = record { code = store; inj = store_inj }

abbrev pub line_code : Coded (Located Numbered)
line_code =
    code_by (List ℕ × (ℕ × Numbered)) (coded× bytes_code (coded× coded_ℕ statement_code)) (λ l. (l.file, (l.line, l.statement)))
    (λ p. record { file = p.0; line = p.1.0; statement = p.1.1 })
    (λ _. refl)
