-- What an explanation prints decides the value.
use Rattle.std.proofs.Common.{◌≡◌, List, ap, subst, sym, ◌∙◌, map, ℕ}
use Rattle.kc_language.specs.{Expansion.{Files}, Symbols.{TreeFacts}, Texts.{Solution}}
use Rattle.kc_outcome.specs.{Explanations.{IsGivenByLine, IsSolved, WordsDecide, facts_in, words_of}, Outcome.{Options, read_of, root_file}}
use Rattle.kc_outcome.proofs.GivenByLines.{run_gives}
use Rattle.kc_conf.specs.Laws.{ExplanationsDecide, RefusesNothing}

solved : (files : Files) (options : Options) (all : List (List ℕ)) (tree : TreeFacts) (solution : Solution) →
    RefusesNothing files options all tree solution → IsSolved tree (read_of options tree all).input solution
solved files options all tree solution run =
    record { tree_is = run.solution_is.tree_is; given = run.solution_is.places_are; solved = run.solution_is.solves }

pub explanations_decide_law : WordsDecide → ExplanationsDecide
explanations_decide_law decide files a b first second tree A B s one other same within words =
    decide files (root_file a) tree a.prefix.is_raw s (read_of a tree first).input (read_of b tree second).input A B one.accepted.built
    (solved files a first tree A one) (solved files b second tree B other) within (run_gives a tree first s)
    (subst (λ r. IsGivenByLine r tree (read_of b tree second).input s) (sym same) (run_gives b tree second s))
    (words ∙ ap (λ r. map (words_of r tree) (facts_in (read_of b tree second).input B s)) (sym same))
