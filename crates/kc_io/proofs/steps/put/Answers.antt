use Rattle.kc_io.specs.Delivered.{text_view}
use Rattle.kc_io.proofs.WentLemmas.{not_made, not_whole, written}
use Rattle.kc_io.proofs.steps.put.Goals as goal

pub returns-in-Err : goal.returns-in-Err
returns-in-Err g c = not_made c.args.site (text_view c.args.text.now) _ _ _ c.in-Err.ensures

pub returns-in-Err-write : goal.returns-in-Err-write
returns-in-Err-write g c =
    not_whole c.args.site (text_view c.args.text.now) _ _ _ _ _ c.deref.ensures.value c.in_default.ensures c.in-Err-write.ensures

pub returns : goal.returns
returns g c =
    written c.args.site (text_view c.args.text.now) _ _ _ _ _ _ c.deref.ensures.value c.in_default.ensures c.in_default-write.ensures c.close.ensures
