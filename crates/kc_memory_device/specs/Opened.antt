-- Trusted: A file in memory that was opened.
use Rattle.std.specs.Prelude.{Some, None, drop, length, ◌-◌, if◌then◌else◌}
use Rattle.kc_io.specs.Log.{OpenFile}
use Rattle.kc_memory_device.specs.declared.opened.Opened.{Opened}

abbrev pub open_file : Opened → OpenFile
open_file opened = record {
  to_come = if opened.is_told then Some (drop opened.at opened.bytes.items) else None;
  reads_left = length opened.bytes.items - opened.at;
}
