-- Over files that hold the same for the lines of a tree, the list of new symbols with help is the same.
use Rattle.std.proofs.Common.{◌≡◌, ℕ, zero, suc, List, [], ◌∷◌, ◌++◌, codes, Option, refl, sym, ap, ◌∙◌, decimal}
use Rattle.std.specs.List.{flat_map}
use Rattle.std.specs.Prelude.{All, if◌then◌else◌, map, slice_get}
use Rattle.std.proofs.lemmas.List.Elements.{All-head, All-map, All-tail}
use Rattle.kc_language.specs.ConfigFile.{Notation, UserInput}
use Rattle.kc_language.specs.Expansion.{Files, ReadSoFar, mentioned_names, numbered_lines}
use Rattle.kc_language.specs.Expressions.{number_of}
use Rattle.kc_outcome.specs.Explanations.{definition_comments, definition_lines, ends_in_help, excerpt, first_definitions, last_line, menu_path, new_text_with_help}
use Rattle.kc_outcome.specs.Outcome.{Options, done_outcome, text_of}
use Rattle.kc_language.specs.Statements.{Located, Named, Numbered, numbered, statements}
use Rattle.kc_language.specs.Symbols.{TreeFacts, definitions_of, listed}
use Rattle.kc_language.specs.Texts.{Solution, SolutionView, new_text, solution_view, symbol_new}
use Rattle.kc_language.specs.declared.expressions.SymId.{SymId}
use Rattle.kc_outcome.specs.declared.outcome.Output.{Output}

each_same : {X Y : Type 0} (f g : X → List Y) (xs : List X) → ((x : X) → f x ≡ g x) → flat_map f xs ≡ flat_map g xs
each_same f g [] same = refl
each_same f g (x ∷ xs) same = ap (λ l. l ++ flat_map f xs) (same x) ∙ ap (λ l. g x ++ l) (each_same f g xs same)

module _ (files others : Files) where
  abbrev Same : Located Numbered → Type 0
  Same l = others.bytes l.file ≡ files.bytes l.file

  -- the lines are of files that hold the same
  numbered_same : (lines : List (Located Named)) → All (λ (l : Located Named). others.bytes l.file ≡ files.bytes l.file) lines → All Same (numbered_lines lines)
  numbered_same lines same =
      All-map Same (λ (l : Located Named). let n : Located Numbered = record { file = l.file; line = l.line; statement = numbered (number_of (mentioned_names (statements lines))) l.statement } in n) lines same

  -- the comments of one definition
  abbrev comment_at : Files → List (Located Numbered) → ℕ → Located Numbered → List ℕ
  comment_at holding lines i l = flat_map (λ line. codes "# " ++ line ++ codes "\n") (definition_lines holding lines i l)

  line_same : (lines : List (Located Numbered)) (i : ℕ) (l : Located Numbered) → Same l → comment_at files lines i l ≡ comment_at others lines i l
  line_same lines i l same =
      ap (λ (found : Option (List ℕ)). flat_map (λ line. codes "# " ++ line ++ codes "\n") ((l.file ++ codes ":" ++ decimal l.line) ∷ menu_path (statements lines) i
      ++ flat_map (λ bytes. excerpt bytes l.line (last_line lines i l) (ends_in_help lines i)) (listed found))) (sym same)

  comment_same : (lines part : List (Located Numbered)) (i n : ℕ) → All Same part →
      flat_map (comment_at files lines i) (listed (slice_get part n)) ≡ flat_map (comment_at others lines i) (listed (slice_get part n))
  comment_same lines [] i n same = refl
  comment_same lines (l ∷ part) i zero same = ap (λ text. text ++ []) (line_same lines i l (All-head Same l part same))
  comment_same lines (l ∷ part) i (suc n) same = comment_same lines part i n (All-tail Same l part same)

  module _ (lines : List (Located Numbered)) (same : All Same lines) where
    comments_same : (s : SymId) → definition_comments files lines s ≡ definition_comments others lines s
    comments_same s =
        each_same _ _ (first_definitions lines (definitions_of (statements lines) s)) (λ i. comment_same lines lines i i same)

    help_same : (tree : TreeFacts) (prefix : Notation) (view : SolutionView) → new_text_with_help files lines tree prefix view ≡ new_text_with_help others lines tree prefix view
    help_same tree prefix view =
        each_same _ _ tree.defined
        (λ s. ap (λ t. if view.is_new s then t ++ symbol_new tree prefix view s ++ codes "\n" else []) (comments_same s))

  module _ (options : Options) (opened : List (List ℕ)) (input : UserInput) (solution : Solution) (same : All Same solution.tree.lines) where
    text_same : (kind : Output) → text_of files options opened input solution kind ≡ text_of others options opened input solution kind
    text_same Output.NewSymbols =
        ap (λ (text : List ℕ). if options.with_help then text else new_text solution.tree options.prefix (solution_view solution))
        (help_same solution.tree.lines same solution.tree options.prefix (solution_view solution))
    text_same _ = refl

    pub done_outcome-same : done_outcome files options opened input solution ≡ done_outcome others options opened input solution
    done_outcome-same = λ i. record (done_outcome files options opened input solution) { texts = map (λ wanted. text_same wanted.kind i) options.outputs.items }

-- the files of the lines of a log hold the same
pub lines-same : (files others : Files) (log : ReadSoFar) → All (λ (l : Located Named). others.bytes l.file ≡ files.bytes l.file) log.lines → All (λ (l : Located Numbered). others.bytes l.file ≡ files.bytes l.file) (numbered_lines log.lines)
lines-same files others log same = numbered_same files others log.lines same
