-- From what clap's getters answer to what clap's matches are; and rows of the least words, each computed.
use Rattle.std.proofs.Common.{◌≡◌, List, [], refl, ap, ◌∙◌, true, ◌∷◌, codes, false, Some}
use Rattle.clap.specs.Words.{App, HasMatchesOf, Text, found_of, is_simple, matches_of, rows_of, takes, first_of, all_of}
use Rattle.clap.specs.Faults.{is_simple_and_free}
use Rattle.clap.specs.declared.parser.matches.ArgMatches.{ArgMatches}
use Rattle.clap.proofs.WalkLemmas.{first_value-rows, raw_values-rows}
use Rattle.clap.proofs.OnLiterals.{clap_on_literals}
use Rattle.kc_words.specs.CommandLine.{is_given, kconf_app, with_options}

pub ruleset found_rows = (first_value-rows, raw_values-rows)

pub kconf_app-simple : is_simple kconf_app ≡ true
unfolding clap_on_literals kconf_app with_options
kconf_app-simple = refl

pub kconf_app-free : is_simple_and_free kconf_app ≡ true
unfolding clap_on_literals kconf_app with_options
kconf_app-free = refl

-- the command's matches are those of the words
pub rows-matches : (app : App) (words : List Text) (m : ArgMatches) → app ≡ kconf_app → HasMatchesOf app words m → rows_of (found_of m) ≡ matches_of kconf_app words
rows-matches app words m is has = (has (ap is_simple is ∙ kconf_app-simple)).0 ∙ ap (λ a. matches_of a words) is

-- rows: the least words, computed
one_word : takes kconf_app (codes "Kconfig" ∷ []) ≡ true
unfolding clap_on_literals kconf_app with_options
one_word = refl

all_words : takes kconf_app (codes "--root" ∷ codes "d" ∷ codes "--header=h" ∷ codes "Kconfig" ∷ codes "--prefix" ∷ codes "X" ∷ codes "a" ∷ codes "--" ∷ codes "-b" ∷ []) ≡ true
unfolding clap_on_literals kconf_app with_options
all_words = refl

no_word : takes kconf_app [] ≡ false
unfolding clap_on_literals kconf_app with_options
no_word = refl

root_is : first_of (codes "root") (matches_of kconf_app (codes "--root" ∷ codes "d" ∷ codes "Kconfig" ∷ [])) ≡ Some (codes "d")
unfolding clap_on_literals kconf_app with_options
root_is = refl

fragments_are : all_of (codes "FRAGMENT") (matches_of kconf_app (codes "Kconfig" ∷ codes "a" ∷ codes "--root" ∷ codes "d" ∷ codes "--" ∷ codes "-b" ∷ [])) ≡ Some (codes "a" ∷ codes "-b" ∷ [])
unfolding clap_on_literals kconf_app with_options
fragments_are = refl

exists : is_given (codes "must-exist") (matches_of kconf_app (codes "--must-exist" ∷ codes "Kconfig" ∷ [])) ≡ true
unfolding clap_on_literals kconf_app with_options
exists = refl

absent : is_given (codes "must-exist") (matches_of kconf_app (codes "Kconfig" ∷ [])) ≡ false
unfolding clap_on_literals kconf_app with_options
absent = refl

strict : is_given (codes "strict") (matches_of kconf_app (codes "--strict" ∷ codes "Kconfig" ∷ [])) ≡ true
unfolding clap_on_literals kconf_app with_options
strict = refl

lenient : is_given (codes "strict") (matches_of kconf_app (codes "--must-exist" ∷ codes "Kconfig" ∷ [])) ≡ false
unfolding clap_on_literals kconf_app with_options
lenient = refl

strict_tree : is_given (codes "strict-tree") (matches_of kconf_app (codes "--strict-tree" ∷ codes "Kconfig" ∷ [])) ≡ true
unfolding clap_on_literals kconf_app with_options
strict_tree = refl

lenient_tree : is_given (codes "strict-tree") (matches_of kconf_app (codes "--strict" ∷ codes "Kconfig" ∷ [])) ≡ false
unfolding clap_on_literals kconf_app with_options
lenient_tree = refl

warned : is_given (codes "warn-lost") (matches_of kconf_app (codes "--warn-lost" ∷ codes "Kconfig" ∷ [])) ≡ true
unfolding clap_on_literals kconf_app with_options
warned = refl

unwarned : is_given (codes "warn-lost") (matches_of kconf_app (codes "--strict" ∷ codes "Kconfig" ∷ [])) ≡ false
unfolding clap_on_literals kconf_app with_options
unwarned = refl

replaced : is_given (codes "replace") (matches_of kconf_app (codes "--replace" ∷ codes "Kconfig" ∷ [])) ≡ true
unfolding clap_on_literals kconf_app with_options
replaced = refl

written : is_given (codes "replace") (matches_of kconf_app (codes "--strict" ∷ codes "Kconfig" ∷ [])) ≡ false
unfolding clap_on_literals kconf_app with_options
written = refl

rule_for_make : first_of (codes "depfile") (matches_of kconf_app (codes "--depfile=d" ∷ codes "Kconfig" ∷ [])) ≡ Some (codes "d")
unfolding clap_on_literals kconf_app with_options
rule_for_make = refl

checked : is_given (codes "check") (matches_of kconf_app (codes "--check" ∷ codes "Kconfig" ∷ [])) ≡ true
unfolding clap_on_literals kconf_app with_options
checked = refl

unchecked : is_given (codes "check") (matches_of kconf_app (codes "--replace" ∷ codes "Kconfig" ∷ [])) ≡ false
unfolding clap_on_literals kconf_app with_options
unchecked = refl

differs : is_given (codes "diff") (matches_of kconf_app (codes "--check" ∷ codes "--diff" ∷ codes "Kconfig" ∷ [])) ≡ true
unfolding clap_on_literals kconf_app with_options
differs = refl

how : first_of (codes "how") (matches_of kconf_app (codes "--how=A=y" ∷ codes "--how-steps" ∷ codes "9" ∷ codes "Kconfig" ∷ [])) ≡ Some (codes "A=y")
unfolding clap_on_literals kconf_app with_options
how = refl

includes : first_of (codes "include") (matches_of kconf_app (codes "--flat" ∷ codes "--include=d" ∷ codes "Kconfig" ∷ [])) ≡ Some (codes "d")
unfolding clap_on_literals kconf_app with_options
includes = refl

more_fragments : all_of (codes "fragment") (matches_of kconf_app (codes "--fragment" ∷ codes "a" ∷ codes "Kconfig" ∷ codes "b" ∷ codes "--fragment=c" ∷ [])) ≡ Some (codes "a" ∷ codes "c" ∷ [])
unfolding clap_on_literals kconf_app with_options
more_fragments = refl
