-- What a reply leaves.
use Rattle.std.proofs.Common.{◌≡◌, ◌∙◌, ℕ, Bool, decimal, false, not, List, [], ◌∷◌, ◌++◌, refl, sym, ap, subst, append_assoc, append-nil, true, Option, None, Some, Vec, Global}
use Rattle.std.specs.List.{flat_map}
use Rattle.std.proofs.lemmas.Grind.{flat_map-append}
use Rattle.std.proofs.lemmas.List.Elements.{All-append, All-cons, All-nil}
use Rattle.std.specs.Prelude.{All, ◌||◌, codes, if◌then◌else◌, map}
use Rattle.kc_language.specs.ConfigFile.{Notation, UserInput}
use Rattle.kc_language.specs.Statements.{error_line}
use Rattle.kc_language.specs.Symbols.{SymbolFacts, TreeFacts, same_type}
use Rattle.kc_language.specs.Texts.{IsSolutionFor, Solution, has_prompt}
use Rattle.kc_language.specs.Values.{GivenText, GivenTruth, GivenValue, Member, facts, name, type_in}
use Rattle.kc_language.specs.declared.expressions.SymId.{SymId}
use Rattle.kc_language.specs.declared.expressions.SymbolType.{SymbolType}
use Rattle.kc_language.specs.declared.expressions.SymbolType.TheVariants.{Undefined}
use Rattle.kc_language.specs.declared.expressions.Tri.TheVariants.{M, N, Y}
use Rattle.kc_outcome.specs.Explanations.{Fact, text_of_lines}
use Rattle.kc_outcome.specs.Outcome.{Options, lead, refused_outcome}
use Rattle.kc_possible.specs.Possible.{IsOff}
use Rattle.kc_how.specs.FixTexts.{fix_text, impossible_line, loses_nothing, miss_text, no_value_text, not_found_text, reason_line, setting, type_words}
use Rattle.kc_how.specs.How.{Goal, IsFix, IsOutOfReach, wanted_value, with_fragment}
use Rattle.kc_how.specs.Questions.{IsQuestion, goal_of}
use Rattle.kc_how.specs.declared.answer.Miss.{Miss}
use Rattle.kc_how.specs.declared.question.Question.{Question}
use Rattle.kc_explain.specs.Fixed.{AreFixedOf, fixed_lines, fixed_words}
use Rattle.kc_explain.specs.RangeLines.{holds_number, range_lines}
use Rattle.kc_explain.specs.declared.teller.Teller.{Teller}
use Rattle.kc_conf.specs.How.{IsReason, asked_first, fixed, impossible, impossible_text, modules_line, modules_of, no_value, not_found, prompt_line, prompt_of, goal_range_lines, reason_lines, told}
use Rattle.kc_conf.specs.HowParts.{AddsReasons, IsAsked, IsReply, IsTellerOf, Replies}
use Rattle.kc_conf.specs.Reads.{IsWholeEnd}
use Rattle.kc_conf.specs.declared.reply.Asked.{Asked}
use Rattle.kc_conf.specs.declared.reply.Reply.{Reply}
use Rattle.kc_conf.specs.declared.reply.Reply.TheVariants.{Refusal, Text}
use Rattle.kc_conf.proofs.SayLemmas.{ends-behind}

-- ---- refusals are whole lines

ends-error : (text : List ℕ) → IsWholeEnd (error_line text)
ends-error text = (codes "error " ++ text, refl)

ends-reason : (tree : TreeFacts) (s : SymId) → IsWholeEnd (reason_line tree s)
ends-reason tree s = ends-behind (codes "  " ++ name tree s) _ (by (type_in (facts tree s)))
  where
    by : (kind : SymbolType) → IsWholeEnd (elim kind [ Undefined ↦ codes ": not defined\n" | _ ↦ codes ": always n\n" ])
    by Undefined = (codes ": not defined", refl)
    by _ = (codes ": always n", refl)

-- parts that are whole lines
ends-parts : {X : Type 0} (f : X → List ℕ) (each : (x : X) → IsWholeEnd (f x)) (xs : List X) (front : List ℕ) → IsWholeEnd front → IsWholeEnd (front ++ flat_map f xs)
ends-parts f each [] front ends = subst IsWholeEnd (sym (append-nil front)) ends
ends-parts f each (x ∷ xs) front ends =
    subst IsWholeEnd (append_assoc front (f x) (flat_map f xs)) (ends-parts f each xs (front ++ f x) (ends-behind front (f x) (each x)))

ends-lines : (lead : List ℕ) (lines : List (List ℕ)) (front : List ℕ) → IsWholeEnd front → IsWholeEnd (front ++ text_of_lines lead lines)
ends-lines lead lines front ends = ends-parts (λ l. lead ++ l ++ codes "\n") (λ l. (lead ++ l, refl)) lines front ends

ends-fixed : (is_raw : Bool) (tree : TreeFacts) (lead : List ℕ) (facts : List Fact) (front : List ℕ) → IsWholeEnd front → IsWholeEnd (front ++ fixed_lines is_raw tree lead facts)
ends-fixed is_raw tree lead facts front ends = ends-lines lead (map (fixed_words is_raw tree) facts) front ends

ends-nothing : (front : List ℕ) → IsWholeEnd front → IsWholeEnd (front ++ [])
ends-nothing front ends = subst IsWholeEnd (sym (append-nil front)) ends

ends-range_lines : (is_raw : Bool) (tree : TreeFacts) (lead : List ℕ) (s : SymId) (number front : List ℕ) → IsWholeEnd front → IsWholeEnd (front ++ range_lines is_raw tree lead s number)
ends-range_lines is_raw tree lead s number front ends = by _ (holds_number (type_in (facts tree s)))
  where
    by : (lines : List (List ℕ)) (are_told : Bool) → IsWholeEnd (front ++ (if are_told then text_of_lines lead lines else []))
    by lines true = ends-lines lead lines front ends
    by lines false = ends-nothing front ends

ends-ranges : (is_raw : Bool) (tree : TreeFacts) (lead : List ℕ) (s : SymId) (front : List ℕ) → IsWholeEnd front → (value : GivenValue) →
    IsWholeEnd (front ++ goal_range_lines is_raw tree lead (record { symbol = s; value = value }))
ends-ranges is_raw tree lead s front ends (GivenText number) = ends-range_lines is_raw tree lead s number front ends
ends-ranges is_raw tree lead s front ends (GivenTruth t) = ends-nothing front ends
ends-ranges is_raw tree lead s front ends (Member m) = ends-nothing front ends

ends-modules : (lead front : List ℕ) → IsWholeEnd front → (modules : Option SymId) (value : GivenValue) → IsWholeEnd (front ++ modules_of lead modules value)
ends-modules lead front ends None (GivenTruth M) = ends-behind front (lead ++ codes "no modules symbol" ++ codes "\n") (lead ++ codes "no modules symbol", refl)
ends-modules lead front ends None (GivenTruth N) = ends-nothing front ends
ends-modules lead front ends None (GivenTruth Y) = ends-nothing front ends
ends-modules lead front ends None (GivenText number) = ends-nothing front ends
ends-modules lead front ends None (Member m) = ends-nothing front ends
ends-modules lead front ends (Some s) value = ends-nothing front ends

ends-prompt : (lead front : List ℕ) → IsWholeEnd front → (of : Option SymbolFacts) → IsWholeEnd (front ++ prompt_of lead of)
ends-prompt lead front ends None = subst IsWholeEnd (sym (append-nil front)) ends
ends-prompt lead front ends (Some f) = by (same_type f.symbol_type Undefined || has_prompt f.prompts)
  where
    by : (is_told : Bool) → IsWholeEnd (front ++ (if is_told then [] else lead ++ codes "no prompt" ++ codes "\n"))
    by true = subst IsWholeEnd (sym (append-nil front)) ends
    by false = ends-behind front (lead ++ codes "no prompt" ++ codes "\n") (lead ++ codes "no prompt", refl)

ends-reason_lines : (notation : Notation) (tree : TreeFacts) (reason : SymId × List Fact) → IsWholeEnd (reason_lines notation tree reason)
ends-reason_lines notation tree reason =
    ends-fixed notation.is_raw tree (codes "    ") reason.1 (reason_line tree reason.0 ++ prompt_line (codes "    ") tree reason.0)
    (ends-prompt (codes "    ") (reason_line tree reason.0) (ends-reason tree reason.0) (facts tree reason.0))

ends-impossible : (notation : Notation) (tree : TreeFacts) (goal : Goal) (told : List Fact) (reasons : List (SymId × List Fact)) → IsWholeEnd (impossible_text notation tree goal told reasons)
ends-impossible notation tree goal told reasons =
    let prompted : List ℕ = impossible_line tree notation goal ++ prompt_line (codes "  ") tree goal.symbol in
    let modular : List ℕ = prompted ++ modules_line (codes "  ") tree goal in
    let ranged : List ℕ = modular ++ goal_range_lines notation.is_raw tree (codes "  ") goal in
    ends-parts (reason_lines notation tree) (ends-reason_lines notation tree) reasons (ranged ++ fixed_lines notation.is_raw tree (codes "  ") told)
    (ends-fixed notation.is_raw tree (codes "  ") told ranged (ends-ranges notation.is_raw tree (codes "  ") goal.symbol modular (ends-modules (codes "  ") prompted
    (ends-prompt (codes "  ") (impossible_line tree notation goal) (ends-error (codes "E25: no input gives " ++ setting tree notation goal.symbol goal.value)) (facts tree goal.symbol))
    tree.modules goal.value) goal.value))

-- ---- replies to a question

-- what counts loses nothing, where nothing may be lost
where_strict : (strict keeps : Bool) → (not strict || keeps) ≡ true → strict ≡ true → keeps ≡ true
where_strict true keeps counts on = counts
where_strict false keeps counts on = absurd (let clash : false ≡ true = on in cc)

module _ (q : Question) where
  abbrev tree : TreeFacts
  tree = q.laid.now.tree.now

  abbrev goal : Goal
  goal = goal_of q.goal.now

  pub Replies-not_found : (miss : Miss) (text : Vec ℕ Global) → text.items ≡ not_found_text tree q.prefix.now goal q.steps miss → Replies q (Refusal text)
  Replies-not_found miss text e = record {
    told = λ options asked is. not_found goal miss is.goal
        (ap (λ t. refused_outcome (lead options ++ t)) (e ∙ ap (λ (p : Notation). not_found_text tree p goal q.steps miss) is.prefix ∙ ap (λ (n : ℕ). not_found_text tree options.prefix goal n miss) is.steps));
    ends = subst IsWholeEnd (sym e) (ends-error (codes "E26: no way to " ++ setting tree q.prefix.now goal.symbol goal.value ++ miss_text q.steps miss));
  }

  -- facts about a symbol that no line can change are added
  abbrev AddsFacts : Teller → List ℕ → SymId → List ℕ → List ℕ → Type 0
  AddsFacts t lead s old new = (facts : List Fact) × AreFixedOf t.input.now t.solved.now s facts × (new ≡ old ++ fixed_lines t.is_raw t.solved.now.tree lead facts)

  -- the same, of the question
  abbrev AddsOwn : List ℕ → SymId → List ℕ → List ℕ → Type 0
  AddsOwn lead s old new = (facts : List Fact) × AreFixedOf q.input.now q.before.now s facts × (new ≡ old ++ fixed_lines q.prefix.now.is_raw tree lead facts)

  own-facts : (t : Teller) (lead : List ℕ) (s : SymId) (old new : List ℕ) → IsQuestion q → IsTellerOf q t → AddsFacts t lead s old new → AddsOwn lead s old new
  own-facts t lead s old new is tells adds = (
    adds.0,
    subst (λ (i : UserInput). AreFixedOf i q.before.now s adds.0) tells.input (subst (λ (solution : Solution). AreFixedOf t.input.now solution s adds.0) tells.solved adds.1),
    adds.2 ∙ ap (λ (b : Bool). old ++ fixed_lines b t.solved.now.tree lead adds.0) tells.is_raw
        ∙ ap (λ (r : TreeFacts). old ++ fixed_lines q.prefix.now.is_raw r lead adds.0) (ap (λ (solution : Solution). solution.tree) tells.solved ∙ is.before.tree_is),
  )

  pub adds_reason : (t : Teller) (s : SymId) (old called middle new : List ℕ) → IsQuestion q → IsTellerOf q t → IsOff tree s → called ≡ old ++ reason_line tree s →
      middle ≡ called ++ prompt_line (codes "    ") tree s → AddsFacts t (codes "    ") s middle new → AddsReasons q old new
  adds_reason t s old called middle new is tells off e shown adds =
      let own = own-facts t (codes "    ") s middle new is tells adds in
      let lines : List ℕ = fixed_lines q.prefix.now.is_raw tree (codes "    ") own.0 in
      let prompt : List ℕ = prompt_line (codes "    ") tree s in
      let first : List ℕ = reason_line tree s ++ prompt in
      let begins : middle ≡ old ++ first = shown ∙ ap (λ r. r ++ prompt) e ∙ append_assoc old (reason_line tree s) prompt in
      record {
        reasons = (s, own.0) ∷ [];
        off = All-cons (IsReason q.input.now q.before.now) (s, own.0) [] (record { off = subst (λ (r : TreeFacts). IsOff r s) (sym is.before.tree_is) off; fixed = own.1 })
            (All-nil (IsReason q.input.now q.before.now));
        added = own.2 ∙ ap (λ r. r ++ lines) begins ∙ append_assoc old first lines ∙ ap (λ r. old ++ r) (sym (append-nil (first ++ lines)));
      }

  pub adds_no_reason : (text : List ℕ) → AddsReasons q text text
  adds_no_reason text = record { reasons = []; off = All-nil (IsReason q.input.now q.before.now); added = sym (append-nil text) }

  pub adds_more_reasons : (a b c : List ℕ) → AddsReasons q a b → AddsReasons q b c → AddsReasons q a c
  adds_more_reasons a b c x y =
      let lines : List (SymId × List Fact) → List ℕ = flat_map (reason_lines q.prefix.now tree) in
      record {
        reasons = x.reasons ++ y.reasons;
        off = All-append (IsReason q.input.now q.before.now) x.reasons y.reasons x.off y.off;
        added = y.added ∙ ap (λ r. r ++ lines y.reasons) x.added ∙ append_assoc a (lines x.reasons) (lines y.reasons)
            ∙ ap (λ r. a ++ r) (sym (flat_map-append (reason_lines q.prefix.now tree) x.reasons y.reasons));
      }

  -- the ranges that the teller tells are those of the question
  own-ranges : (t : Teller) (lead : List ℕ) → IsQuestion q → IsTellerOf q t →
      goal_range_lines t.is_raw t.solved.now.tree lead goal ≡ goal_range_lines q.prefix.now.is_raw tree lead goal
  own-ranges t lead is tells =
      ap (λ (b : Bool). goal_range_lines b t.solved.now.tree lead goal) tells.is_raw
      ∙ ap (λ (r : TreeFacts). goal_range_lines q.prefix.now.is_raw r lead goal) (ap (λ (solution : Solution). solution.tree) tells.solved ∙ is.before.tree_is)

  pub Replies-impossible : (t : Teller) (first prompted modular ranged middle : List ℕ) (text : Vec ℕ Global) → IsQuestion q → IsTellerOf q t → IsOutOfReach tree goal →
      first ≡ impossible_line tree q.prefix.now goal → prompted ≡ first ++ prompt_line (codes "  ") tree goal.symbol → modular ≡ prompted ++ modules_line (codes "  ") tree goal →
      ranged ≡ modular ++ goal_range_lines t.is_raw t.solved.now.tree (codes "  ") goal → AddsFacts t (codes "  ") goal.symbol ranged middle → AddsReasons q middle text.items →
      Replies q (Refusal text)
  Replies-impossible t first prompted modular ranged middle text is tells out e prompt modules ranges adds more =
      let own = own-facts t (codes "  ") goal.symbol ranged middle is tells adds in
      let range_lines : List ℕ = goal_range_lines q.prefix.now.is_raw tree (codes "  ") goal in
      let begins : ranged ≡ impossible_line tree q.prefix.now goal ++ prompt_line (codes "  ") tree goal.symbol ++ modules_line (codes "  ") tree goal ++ range_lines =
      ranges ∙ ap (λ r. modular ++ r) (own-ranges t (codes "  ") is tells)
      ∙ ap (λ r. r ++ range_lines) (modules ∙ ap (λ r. r ++ modules_line (codes "  ") tree goal) (prompt ∙ ap (λ r. r ++ prompt_line (codes "  ") tree goal.symbol) e)) in
      let lines : List ℕ = fixed_lines q.prefix.now.is_raw tree (codes "  ") own.0 in
      let reasons : List ℕ = flat_map (reason_lines q.prefix.now tree) more.reasons in
      let whole : text.items ≡ impossible_text q.prefix.now tree goal own.0 more.reasons =
      more.added ∙ ap (λ r. r ++ reasons) (own.2 ∙ ap (λ r. r ++ lines) begins) in
      record {
        told = λ options asked is_asked. impossible goal (record { facts = own.0; fixed = own.1; reasons = more.reasons; off = more.off }) is_asked.goal out
            (ap (λ r. refused_outcome (lead options ++ r)) (whole ∙ ap (λ (p : Notation). impossible_text p tree goal own.0 more.reasons) is_asked.prefix));
        ends = subst IsWholeEnd (sym whole) (ends-impossible q.prefix.now tree goal own.0 more.reasons);
      }

  pub Replies-fixed : (lines : List (List ℕ)) (after : Solution) (text : Vec ℕ Global) → IsFix tree q.prefix.now q.input.now q.before.now goal lines →
      IsSolutionFor tree (with_fragment tree q.prefix.now q.input.now lines).places after → (not q.is_strict || loses_nothing tree q.prefix.now q.input.now q.before.now after lines) ≡ true →
      text.items ≡ fix_text tree q.prefix.now q.input.now q.before.now after lines goal → Replies q (Text text)
  Replies-fixed lines after text fix solves counts e = record {
    told = λ options asked is. fixed goal lines after is.goal
        (subst (λ (p : Notation). IsFix tree p q.input.now q.before.now goal lines) is.prefix fix)
        (subst (λ (p : Notation). IsSolutionFor tree (with_fragment tree p q.input.now lines).places after) is.prefix solves)
        (λ on. subst (λ (p : Notation). loses_nothing tree p q.input.now q.before.now after lines ≡ true) is.prefix (where_strict q.is_strict _ counts (is.strict ∙ on)))
        (ap (told options) (e ∙ ap (λ (p : Notation). fix_text tree p q.input.now q.before.now after lines goal) is.prefix));
    ends = tt;
  }

-- ---- replies about an input

module _ (options : Options) (asked : Asked) (tree : TreeFacts) (input : UserInput) (before : Solution) (solves : IsSolutionFor tree input.places before) where
  pub IsReply-no_value : (s : SymId) (text : Vec ℕ Global) → asked_first options tree ≡ Some s → wanted_value options.prefix.is_raw (type_in (facts tree s)) asked.value.now ≡ None →
      text.items ≡ no_value_text tree options.prefix s asked.value.now → IsReply options asked tree input (Refusal text)
  IsReply-no_value s text is none e = record {
    solution = before;
    solution_is = solves;
    told = no_value s is none (ap (λ t. refused_outcome (lead options ++ t)) e);
    ends = subst IsWholeEnd (sym e)
        (ends-error (codes "E25: " ++ options.prefix.prefix ++ name tree s ++ codes " has " ++ type_words (type_in (facts tree s)) ++ codes ": not " ++ asked.value.now));
  }

-- the reply to the question that is asked
pub IsReply-asked : {options : Options} {asked : Asked} (q : Question) (reply : Reply) → IsSolutionFor q.laid.now.tree.now q.input.now.places q.before.now → IsAsked options asked q → Replies q reply →
    IsReply options asked q.laid.now.tree.now q.input.now reply
IsReply-asked {options = options} {asked = asked} q reply solves is replies = record { solution = q.before.now; solution_is = solves; told = replies.told options asked is; ends = replies.ends }

-- the value that is asked for
pub wanted-is : {given : Option GivenValue} {is_raw : Bool} {kind : SymbolType} {text : List ℕ} (options : Options) (asked : Asked) (tree : TreeFacts) (s : SymId) → given ≡ wanted_value is_raw kind text →
    is_raw ≡ options.prefix.is_raw → kind ≡ type_in (facts tree s) → text ≡ asked.value.now → wanted_value options.prefix.is_raw (type_in (facts tree s)) asked.value.now ≡ given
wanted-is {is_raw = is_raw} {kind = kind} {text = text} options asked tree s is raw_is kind_is text_is =
    sym (is ∙ ap (λ (b : Bool). wanted_value b kind text) raw_is ∙ ap (λ (k : SymbolType). wanted_value options.prefix.is_raw k text) kind_is
    ∙ ap (λ (t : List ℕ). wanted_value options.prefix.is_raw (type_in (facts tree s)) t) text_is)
