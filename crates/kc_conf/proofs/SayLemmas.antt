-- What is said is whole lines.
use Rattle.std.proofs.Common.{◌≡◌, ◌≢◌, ℕ, ◌+◌, ◌<◌, length, take, drop, get_or, Bool, true, false, List, [], ◌∷◌, ◌++◌, codes, refl, sym, ap, subst, ◌∙◌, append_assoc, append-nil, arith, Bor, Option, Some, None, inl, inr, ◌⊎◌, map}
use Rattle.std.specs.Prelude.{◌==◌, if◌then◌else◌}
use Rattle.std.specs.List.{flat_map, last_or}
use Rattle.std.proofs.lemmas.List.{append_cancel_left, drop_more, take_more}
use Rattle.kc_language.specs.Text.{byte}
use Rattle.kc_io.specs.Log.{Log}
use Rattle.kc_language.specs.Lines.{is_whole_lines}
use Rattle.kc_io.specs.declared.device.Action.{Action}
use Rattle.kc_io.specs.declared.device.Action.TheVariants.{Open, Read}
use Rattle.kc_io.specs.declared.device.Fault.{Fault}
use Rattle.kc_io.specs.declared.device.Fault.TheVariants.{Refused, Memory}
use Rattle.kc_io.specs.declared.steps.Failure.{Failure}
use Rattle.kc_text.specs.PartsOfLines.{ends_line}
use Rattle.kc_input.specs.WholeLines.{AddsWholeLines}
use Rattle.kc_outcome.specs.Outcome.{Options, first_line, lines_text, lead}
use Rattle.kc_language.specs.Statements.{cannot_read_line}
use Rattle.kc_conf.specs.Faults.{AreLines}
use Rattle.kc_conf.specs.Reads.{IsWholeEnd, LastEndsLine, SaysIf, failure_line}
use Rattle.kc_conf.specs.Endings.{Reports}
use Rattle.kc_conf.specs.declared.stop.Stop.TheVariants.{Failed}

-- ---- the bytes before the first line feed

module _ (name : List ℕ) (i : ℕ) (within : i < length name) where
  line_at : take i name ++ first_line (drop i name) ≡ take i name ++ (if get_or name i 0 == byte "\n" then [] else get_or name i 0 ∷ first_line (drop (i + 1) name))
  line_at = ap (λ l. take i name ++ first_line l) (drop_more name i 0 within)

  -- another byte is one of them
  pub line_more : (get_or name i 0 == byte "\n") ≡ false → take i name ++ first_line (drop i name) ≡ take (i + 1) name ++ first_line (drop (i + 1) name)
  line_more is =
      line_at ∙ ap (λ b. take i name ++ (if b then [] else get_or name i 0 ∷ first_line (drop (i + 1) name))) is
      ∙ sym (append_assoc (take i name) (get_or name i 0 ∷ []) (first_line (drop (i + 1) name)))
      ∙ ap (λ l. l ++ first_line (drop (i + 1) name)) (sym (take_more name i 0 within))

-- ---- whole lines

-- the last of two lists is that of the second, behind that of the first
last_or-append : {A : Type 0} (o : Option A) (a b : List A) → last_or o (a ++ b) ≡ last_or (last_or o a) b
last_or-append o [] b = refl
last_or-append o (x ∷ a) b = last_or-append (Some x) a b

-- bytes that end a line are whole lines
pub whole-ends : (text : List ℕ) → IsWholeEnd text → is_whole_lines text ≡ true
whole-ends text (front, is) = ap is_whole_lines is ∙ ap ends_line (last_or-append None front (codes "\n"))

-- and are some
pub some-end : (text : List ℕ) → IsWholeEnd text → text ≢ []
some-end text ([], is) e = absurd cc
some-end text (b ∷ front, is) e = absurd cc

-- with anything before them
pub ends-behind : (front text : List ℕ) → IsWholeEnd text → IsWholeEnd (front ++ text)
ends-behind front text (before, is) = (front ++ before, ap (λ t. front ++ t) is ∙ sym (append_assoc front before (codes "\n")))

-- lines end a line, where there are any
lines-end : (line : List ℕ) (lines : List (List ℕ)) → IsWholeEnd (lines_text (line ∷ lines))
lines-end line [] = (line, append-nil (line ++ codes "\n"))
lines-end line (next ∷ lines) = ends-behind (line ++ codes "\n") (lines_text (next ∷ lines)) (lines-end next lines)

-- lines are whole lines
pub whole-of_lines : (text : List ℕ) → AreLines text → is_whole_lines text ≡ true
whole-of_lines text (lines, is) = ap is_whole_lines is ∙ all lines
  where
    all : (lines : List (List ℕ)) → is_whole_lines (lines_text lines) ≡ true
    all [] = refl
    all (line ∷ lines) = whole-ends (lines_text (line ∷ lines)) (lines-end line lines)

-- and end a line, where there is anything
pub whole-end : (text : List ℕ) → AreLines text → text ≢ [] → IsWholeEnd text
whole-end text ([], is) some = absurd (some is)
whole-end text (line ∷ lines, is) some = subst IsWholeEnd (sym is) (lines-end line lines)

pub ends-some : {X : Type 0} (f : X → List ℕ) (lines : List X) → false ≡ (length lines == 0) → IsWholeEnd (lines_text (map f lines))
ends-some f [] some = absurd cc
ends-some f (line ∷ lines) some = lines-end (f line) (map f lines)

-- whole lines are lines
AreLines-whole : (text : List ℕ) → is_whole_lines text ≡ true → AreLines text
AreLines-whole [] whole = ([], refl)
AreLines-whole (b ∷ []) whole = ([] ∷ [], let e : b ≡ 10 = grind arith in ap (λ x. x ∷ []) e)
AreLines-whole (b ∷ c ∷ rest) whole = more (AreLines-whole (c ∷ rest) whole)
  where
    more : AreLines (c ∷ rest) → AreLines (b ∷ c ∷ rest)
    more ([], is) = absurd cc
    more (line ∷ lines, is) = ((b ∷ line) ∷ lines, ap (λ t. b ∷ t) is)

-- what was added is lines
pub AreLines-added : (told told_after added : List ℕ) → told_after ≡ told ++ added → AddsWholeLines told told_after → AreLines added
AreLines-added told told_after added is (whole, is', lines) =
    subst AreLines (append_cancel_left told whole added (sym is' ∙ is)) (AreLines-whole whole lines)

-- ---- parts

ends-parts : (part : Bor (List ℕ)) (parts : List (Bor (List ℕ))) → LastEndsLine (part ∷ parts) → IsWholeEnd (flat_map (λ (p : Bor (List ℕ)). p.now) (part ∷ parts))
ends-parts part [] (front, is) = (front, append-nil part.now ∙ is)
ends-parts part (next ∷ parts) ends = ends-behind part.now (flat_map (λ (p : Bor (List ℕ)). p.now) (next ∷ parts)) (ends-parts next parts ends)

-- so they are whole lines
pub whole-parts : (parts : List (Bor (List ℕ))) → LastEndsLine parts → is_whole_lines (flat_map (λ (p : Bor (List ℕ)). p.now) parts) ≡ true
whole-parts [] ends = refl
whole-parts (part ∷ parts) ends = whole-ends (flat_map (λ (p : Bor (List ℕ)). p.now) (part ∷ parts)) (ends-parts part parts ends)

-- ---- what failed

-- a file that could not be opened or read on is told
reports-open : (options : Options) (name : Bor (List ℕ)) (fault : Fault) (is_told : Bool) (old new : Log) → SaysIf (lead options ++ failure_line fault (cannot_read_line name.now)) is_told old new →
    Reports options (Failed (record { action = Open; name = name; fault = fault })) is_told old new
reports-open options name Refused is_told old new (report, told, log) = (report, tt, told, log)
reports-open options name Memory is_told old new (report, told, log) = (report, tt, told, log)

reports-read : (options : Options) (name : Bor (List ℕ)) (fault : Fault) (is_told : Bool) (old new : Log) → SaysIf (lead options ++ failure_line fault (cannot_read_line name.now)) is_told old new →
    Reports options (Failed (record { action = Read; name = name; fault = fault })) is_told old new
reports-read options name Refused is_told old new (report, told, log) = (report, tt, told, log)
reports-read options name Memory is_told old new (report, told, log) = (report, tt, told, log)

pub reports-input : (options : Options) (f : Failure) (is_told : Bool) (old new : Log) → (f.action ≡ Open) ⊎ (f.action ≡ Read) →
    SaysIf (lead options ++ failure_line f.fault (cannot_read_line f.name.now)) is_told old new → Reports options (Failed f) is_told old new
reports-input options f is_told old new (inl is) tries =
    subst (λ (a : Action). Reports options (Failed (record { action = a; name = f.name; fault = f.fault })) is_told old new) (sym is) (reports-open options f.name f.fault is_told old new tries)
reports-input options f is_told old new (inr is) tries =
    subst (λ (a : Action). Reports options (Failed (record { action = a; name = f.name; fault = f.fault })) is_told old new) (sym is) (reports-read options f.name f.fault is_told old new tries)
