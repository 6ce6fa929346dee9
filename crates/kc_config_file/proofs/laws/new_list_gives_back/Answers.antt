use Rattle.kc_config_file.proofs.NewListLaws.{new_list_back}
use Rattle.kc_config_file.proofs.laws.new_list_gives_back.Goals as goal

pub returns : goal.returns
returns c = new_list_back c.equations_read_needs.ensures c.needs_are_symbols.ensures c.new_lines_keep.ensures c.accepted_have_one_solution.ensures.agree
