use Rattle.std.proofs.Common.{◌≡◌, ap, ◌∙◌, codes, Result, IfOk}
use Rattle.std.specs.declared.alloc.AllocError.{AllocError}
use Rattle.std.proofs.lemmas.Result.{IfOk-weaker}
use Rattle.clap.specs.Words.{App, Rule, app_of, with_rule}
use Rattle.clap.specs.declared.builder.command.Command.{Command}
use Rattle.kc_words.specs.CommandLine.{flag_rule, option_rule, repeated_rule, with_options}
use Rattle.kc_words.proofs.command.with_options.Goals as goal

last_rule : (r : Result Command AllocError) (a b : App) (rule : Rule) → a ≡ b → IfOk r (λ longer. app_of longer ≡ with_rule a rule) → IfOk r (λ longer. app_of longer ≡ with_rule b rule)
last_rule r a b rule same = IfOk-weaker r (λ longer. app_of longer ≡ with_rule a rule) (λ longer. app_of longer ≡ with_rule b rule) (λ longer e. e ∙ ap (λ (x : App). with_rule x rule) same)

pub returns : goal.returns
unfolding with_options
returns c =
    let two = c.in_ok-command-2.ensures ∙ ap (λ a. with_rule a (flag_rule (codes "flat"))) c.in_ok-command.ensures in
    let three = c.in_ok-command-3.ensures ∙ ap (λ a. with_rule a (option_rule (codes "include"))) two in
    let four = c.in_ok-command-4.ensures ∙ ap (λ a. with_rule a (option_rule (codes "config"))) three in
    let five = c.in_ok-command-5.ensures ∙ ap (λ a. with_rule a (option_rule (codes "out"))) four in
    let six = c.in_ok-command-6.ensures ∙ ap (λ a. with_rule a (option_rule (codes "header"))) five in
    let seven = c.in_ok-command-7.ensures ∙ ap (λ a. with_rule a (option_rule (codes "savedefconfig"))) six in
    let eight = c.in_ok-command-8.ensures ∙ ap (λ a. with_rule a (option_rule (codes "list-new"))) seven in
    let nine = c.in_ok-command-9.ensures ∙ ap (λ a. with_rule a (flag_rule (codes "with-help"))) eight in
    let ten = c.in_ok-command-10.ensures ∙ ap (λ a. with_rule a (option_rule (codes "list-gone"))) nine in
    let eleven = c.in_ok-command-11.ensures ∙ ap (λ a. with_rule a (option_rule (codes "list-dead"))) ten in
    let twelve = c.in_ok-command-12.ensures ∙ ap (λ a. with_rule a (option_rule (codes "depfile"))) eleven in
    let thirteen = c.in_ok-command-13.ensures ∙ ap (λ a. with_rule a (option_rule (codes "prefix"))) twelve in
    let fourteen = c.in_ok-command-14.ensures ∙ ap (λ a. with_rule a (flag_rule (codes "raw-strings"))) thirteen in
    let fifteen = c.in_ok-command-15.ensures ∙ ap (λ a. with_rule a (flag_rule (codes "must-exist"))) fourteen in
    let sixteen = c.in_ok-command-16.ensures ∙ ap (λ a. with_rule a (flag_rule (codes "strict"))) fifteen in
    let seventeen = c.in_ok-command-17.ensures ∙ ap (λ a. with_rule a (flag_rule (codes "strict-tree"))) sixteen in
    let eighteen = c.in_ok-command-18.ensures ∙ ap (λ a. with_rule a (flag_rule (codes "quiet-tree"))) seventeen in
    let nineteen = c.in_ok-command-19.ensures ∙ ap (λ a. with_rule a (flag_rule (codes "hints"))) eighteen in
    let twenty = c.in_ok-command-20.ensures ∙ ap (λ a. with_rule a (flag_rule (codes "warn-lost"))) nineteen in
    let twenty_one = c.in_ok-command-21.ensures ∙ ap (λ a. with_rule a (flag_rule (codes "explain-lost"))) twenty in
    let twenty_two = c.in_ok-command-22.ensures ∙ ap (λ a. with_rule a (repeated_rule (codes "explain"))) twenty_one in
    let twenty_three = c.in_ok-command-23.ensures ∙ ap (λ a. with_rule a (option_rule (codes "explain-depth"))) twenty_two in
    let twenty_four = c.in_ok-command-24.ensures ∙ ap (λ a. with_rule a (option_rule (codes "how"))) twenty_three in
    let twenty_five = c.in_ok-command-25.ensures ∙ ap (λ a. with_rule a (option_rule (codes "how-steps"))) twenty_four in
    let twenty_six = c.in_ok-command-26.ensures ∙ ap (λ a. with_rule a (flag_rule (codes "replace"))) twenty_five in
    let twenty_seven = c.in_ok-command-27.ensures ∙ ap (λ a. with_rule a (flag_rule (codes "check"))) twenty_six in
    let twenty_eight = c.in_ok-command-28.ensures ∙ ap (λ a. with_rule a (flag_rule (codes "diff"))) twenty_seven in
    let twenty_nine = c.in_ok-command-29.ensures ∙ ap (λ a. with_rule a (flag_rule (codes "each"))) twenty_eight in
    let thirty = c.in_ok-command-30.ensures ∙ ap (λ a. with_rule a (option_rule (codes "each-from"))) twenty_nine in
    last_rule c.with_repeated-2.result _ _ (repeated_rule (codes "fragment")) thirty c.with_repeated-2.ensures
