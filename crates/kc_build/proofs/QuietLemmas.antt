-- A quiet attribute adds nothing to the diagnosis.
use Rattle.std.proofs.{Common.{Bool, List, None, Option, Some, [], ap, false, if◌then◌else◌, map, refl, true, ℕ, ◌&&◌, ◌++◌, ◌||◌, ◌∙◌, ◌≡◌}, lemmas.List.append-nil}
use Rattle.std.specs.{Option.{is_some, option_or}, Prelude.{not, option_map}}
use Rattle.kc_language.specs.{Expressions.Form, Statements.{ConfigLine, DefLine, DefaultLine, ImplyLine, Located, Numbered, PromptLine, SelectLine, TypeLine}, Symbols.{holds_text, prompt_of, same_type}, declared.{expressions.{SymId.SymId, SymbolType.SymbolType}, symbols.{ChoiceId.ChoiceId, MenuEntry.MenuEntry}}}
use Rattle.kc_language.specs.declared.expressions.SymbolType.TheVariants as symbol_type
use Rattle.kc_language.specs.declared.diagnostics.Cause.TheVariants as cause
use Rattle.kc_entries.specs.{PartsOfSymbols.{is_bad_default, is_bad_member, is_single, line_of, line_warnings_by}, StatementViews.head_view, declared.statement.Head.Head}
use Rattle.kc_entries.specs.declared.statement.Head.TheVariants as head
use Rattle.kc_tree.specs.declared.rows.Symbol.{Symbol}
use Rattle.kc_build.specs.{Diagnosed.{Diagnosis, line_diagnosed}, Quiet.{is_quiet, is_truth_type, own_type}, SymbolRows.{choice_by, member_by, type_by}, WholeListRefusals.entry_refusal, declared.diagnostics.EntrySummary.EntrySummary}
use Rattle.kc_language.specs.declared.symbols.MenuEntry.TheVariants as menu_entry
use Rattle.kc_read.proofs.ShapeLemmas.{or_none}
use Rattle.kc_build.proofs.SelectorLemmas.{left-true, right-true}

-- Tests.
not_true : (a : Bool) → not a ≡ true → a ≡ false
not_true true h = absurd cc
not_true false h = refl

and_false : (b c : Bool) → c ≡ false → (b && c) ≡ false
and_false true c h = h
and_false false c h = refl

no_text : (k : SymbolType) (v : Form) → is_truth_type k ≡ true → ((holds_text k || false) && not (is_single v)) ≡ false
no_text symbol_type.Bool v h = refl
no_text symbol_type.Tristate v h = refl
no_text _ v h = absurd cc

-- nothing is to be said of a line
pub record IsQuietLine (symbols : List Symbol) (o : MenuEntry) (prompted first : Bool) (within_choice : Option ℕ) (s : Numbered) : Type 0 where
  pub warnings : line_warnings_by (type_by symbols) (choice_by symbols) (member_by symbols) o prompted first s ≡ []
  pub member : is_bad_member (type_by symbols) (choice_by symbols) first within_choice s ≡ false
  pub default : is_bad_default (type_by symbols) o s ≡ false

module _ (symbols : List Symbol) (prompted first : Bool) (within_choice : Option ℕ) where
  abbrev IsQuiet : MenuEntry → Numbered → Type 0
  IsQuiet o s = IsQuietLine symbols o prompted first within_choice s

  of_symbol : (t : SymId) (s : Numbered) → is_quiet (type_by symbols t) prompted s ≡ true → IsQuiet (menu_entry.Symbol t) s
  of_symbol t (ConfigLine u) h = absurd cc
  of_symbol t (TypeLine x p) h =
      let a : (is_some p && prompted) ≡ false = and_false (is_some p) prompted (not_true prompted (left-true (not prompted) (same_type x (type_by symbols t)) h)) in
      let b : same_type x (type_by symbols t) ≡ true = right-true (not prompted) (same_type x (type_by symbols t)) h in
      record { warnings = rw (a, b) refl; member = refl; default = refl }
  of_symbol t (PromptLine p) h = let a : prompted ≡ false = not_true prompted h in record { warnings = rw a refl; member = refl; default = refl }
  of_symbol t (DefaultLine v w) h = let a : ((holds_text (type_by symbols t) || false) && not (is_single v)) ≡ false = no_text (type_by symbols t) v h in record { warnings = refl; member = refl; default = rw a refl }
  of_symbol t (DefLine x v w) h =
      let a : ((holds_text (type_by symbols t) || false) && not (is_single v)) ≡ false = no_text (type_by symbols t) v (right-true (same_type x (type_by symbols t)) (is_truth_type (type_by symbols t)) h) in
      let b : same_type x (type_by symbols t) ≡ true = left-true (same_type x (type_by symbols t)) (is_truth_type (type_by symbols t)) h in
      record { warnings = rw b refl; member = refl; default = rw a refl }
  of_symbol t (SelectLine u w) h = absurd cc
  of_symbol t (ImplyLine u w) h = absurd cc
  of_symbol t _ h = record { warnings = refl; member = refl; default = refl }

  -- a choice, and an entry of neither
  of_choice : (c : ChoiceId) (s : Numbered) → is_quiet symbol_type.Undefined prompted s ≡ true → IsQuiet (menu_entry.Choice c) s
  of_choice c (ConfigLine u) h = absurd cc
  of_choice c (TypeLine x p) h = let a : (is_some p && prompted) ≡ false = and_false (is_some p) prompted (not_true prompted (left-true (not prompted) (same_type x symbol_type.Undefined) h)) in record { warnings = rw a refl; member = refl; default = refl }
  of_choice c (PromptLine p) h = let a : prompted ≡ false = not_true prompted h in record { warnings = rw a refl; member = refl; default = refl }
  of_choice c (DefaultLine v w) h = absurd cc
  of_choice c (DefLine x v w) h = absurd (let no : false ≡ true = right-true (same_type x symbol_type.Undefined) false h in cc)
  of_choice c (SelectLine u w) h = absurd cc
  of_choice c (ImplyLine u w) h = absurd cc
  of_choice c _ h = record { warnings = refl; member = refl; default = refl }

  of_other : (s : Numbered) → is_quiet symbol_type.Undefined prompted s ≡ true → IsQuiet menu_entry.Other s
  of_other (ConfigLine u) h = absurd cc
  of_other (TypeLine x p) h = let a : (is_some p && prompted) ≡ false = and_false (is_some p) prompted (not_true prompted (left-true (not prompted) (same_type x symbol_type.Undefined) h)) in record { warnings = rw a refl; member = refl; default = refl }
  of_other (PromptLine p) h = let a : prompted ≡ false = not_true prompted h in record { warnings = rw a refl; member = refl; default = refl }
  of_other (DefaultLine v w) h = absurd cc
  of_other (DefLine x v w) h = absurd (let no : false ≡ true = right-true (same_type x symbol_type.Undefined) false h in cc)
  of_other (SelectLine u w) h = absurd cc
  of_other (ImplyLine u w) h = absurd cc
  of_other _ h = record { warnings = refl; member = refl; default = refl }

  quiet_attribute : (o : MenuEntry) (s : Numbered) → is_quiet (own_type symbols o) prompted s ≡ true → IsQuiet o s
  quiet_attribute (menu_entry.Symbol t) s h = of_symbol t s h
  quiet_attribute (menu_entry.Choice c) s h = of_choice c s h
  quiet_attribute menu_entry.Other s h = of_other s h

pub no_prompt : (h : Head) → prompt_of (head_view h) ≡ None
no_prompt (head.Config s) = refl
no_prompt _ = refl

-- it leaves the diagnosis as it is
pub quiet-line : (names : List (List ℕ)) (symbols : List Symbol) (summary : EntrySummary) (prompted : Bool) (l : Located Numbered) (d : Diagnosis) →
    is_quiet (own_type symbols summary.entry) prompted l.statement ≡ true → line_diagnosed names symbols summary prompted l d ≡ d
quiet-line names symbols summary prompted l d h =
    let q = quiet_attribute symbols prompted summary.first (option_map (λ (k : ChoiceId). k.0) summary.within_choice) summary.entry l.statement h in
    let warnings = ap (λ ws. d.warnings ++ map (line_of names l.file l.line) ws) q.warnings ∙ append-nil d.warnings in
    let member = ap (λ (b : Bool). option_or d.member (if b then Some (entry_refusal names cause.ChoiceMember summary.entry l.file l.line) else None)) q.member ∙ or_none d.member in
    let default = ap (λ (b : Bool). option_or d.default (if b then Some (entry_refusal names cause.BadDefault summary.entry l.file l.line) else None)) q.default ∙ or_none d.default in
    λ i. record { warnings = warnings i; member = member i; default = default i }
