-- The names that are refused, and their lines.
use Rattle.std.proofs.Common.{◌≡◌, ◌∙◌, ℕ, Bool, true, false, List, ◌∷◌, ◌++◌, Option, Some, None, refl, sym, ap}
use Rattle.std.specs.Option.{option_map_or, option_or}
use Rattle.std.specs.Prelude.{find, if◌then◌else◌, not}
use Rattle.kc_language.specs.Expansion.{Files}
use Rattle.kc_language.specs.Symbols.{TreeFacts}
use Rattle.kc_outcome.specs.Outcome.{IsAcceptedTree, IsLenientOutcome, Options, lead, names_listed, refused_outcome, refused_name, root_file, target, unknown_name, unknown_symbol, unreadable_name, wants}
use Rattle.kc_language.specs.Files.{is_read_by_make}
use Rattle.kc_outcome.specs.declared.outcome.Output.{Output}
use Rattle.kc_conf.specs.Faults.{refused_name_of}
use Rattle.kc_conf.specs.PartsOfOutcome.{name_refusal, names_if, refusal_by, unknown_line, unreadable_line}

-- where a line refuses a name, there is a name that is refused
name_of_line : (tree : TreeFacts) (unread unknown : Option (List ℕ)) (line : List ℕ) → refusal_by tree unread unknown ≡ Some line →
    (name : List ℕ) × (option_or unread unknown ≡ Some name)
name_of_line tree (Some name) unknown line e = (name, refl)
name_of_line tree None (Some asked) line e = (asked, refl)
name_of_line tree None None line e = absurd (let clash : None ≡ Some line = e in cc)

pub refused_with : (options : Options) (opened : List (List ℕ)) (tree : TreeFacts) (line : List ℕ) → name_refusal options opened tree ≡ Some line →
    (name : List ℕ) × (refused_name_of options opened tree ≡ Some name)
refused_with options opened tree line e = name_of_line tree (unreadable_name options opened) (unknown_name options tree) line e

-- and where none does, none is
no_name : (tree : TreeFacts) (unread unknown : Option (List ℕ)) → refusal_by tree unread unknown ≡ None → option_or unread unknown ≡ None
no_name tree (Some name) unknown e = absurd (let clash : Some (unreadable_line name) ≡ None = e in cc)
no_name tree None (Some asked) e = absurd (let clash : Some (unknown_line tree asked) ≡ None = e in cc)
no_name tree None None e = refl

pub none_refused : (options : Options) (opened : List (List ℕ)) (tree : TreeFacts) → name_refusal options opened tree ≡ None → refused_name_of options opened tree ≡ None
none_refused options opened tree e = no_name tree (unreadable_name options opened) (unknown_name options tree) e

-- the first name that make cannot read, among the names that are listed
pub unread_is : (options : Options) (opened : List (List ℕ)) (names : Option (List (List ℕ))) → names ≡ names_if options opened →
    option_map_or (λ names. find (λ name. not (is_read_by_make name)) (target options ∷ names)) names None ≡ unreadable_name options opened
unread_is options opened names e =
    ap (λ (names : Option (List (List ℕ))). option_map_or (λ names. find (λ name. not (is_read_by_make name)) (target options ∷ names)) names None) e
    ∙ by (wants options Output.DependencyFile)
  where
    by : (b : Bool) → option_map_or (λ names. find (λ name. not (is_read_by_make name)) (target options ∷ names)) (if b then Some (names_listed options opened) else None) None
        ≡ (if b then find (λ name. not (is_read_by_make name)) (target options ∷ names_listed options opened) else None)
    by true = refl
    by false = refl

-- the outcome is that line
module _ (files : Files) (options : Options) (opened all : List (List ℕ)) (tree : TreeFacts) (accepted : IsAcceptedTree files (root_file options) tree) where
  lenient_by : (unread unknown : Option (List ℕ)) (line : List ℕ) → unreadable_name options opened ≡ unread → unknown_name options tree ≡ unknown →
      refusal_by tree unread unknown ≡ Some line → IsLenientOutcome files options opened all (refused_outcome (lead options ++ line))
  lenient_by (Some name) unknown line is is' e =
      let same : unreadable_line name ≡ line = (let both : Some (unreadable_line name) ≡ Some line = e in cc) in
      refused_name tree name accepted is (ap (λ l. refused_outcome (lead options ++ l)) (sym same))
  lenient_by None (Some asked) line is is' e =
      let same : unknown_line tree asked ≡ line = (let both : Some (unknown_line tree asked) ≡ Some line = e in cc) in
      unknown_symbol tree asked accepted is is' (ap (λ l. refused_outcome (lead options ++ l)) (sym same))
  lenient_by None None line is is' e = absurd (let clash : None ≡ Some line = e in cc)

  pub lenient_refusal : (line : List ℕ) → name_refusal options opened tree ≡ Some line → IsLenientOutcome files options opened all (refused_outcome (lead options ++ line))
  lenient_refusal line e = lenient_by (unreadable_name options opened) (unknown_name options tree) line refl refl e
