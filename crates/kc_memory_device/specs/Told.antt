-- Trusted: The log of a device in memory.
use Rattle.kc_io.specs.Log.{Log}
use Rattle.kc_memory_device.specs.{Recorded.{first_held, told}, declared.device.MemoryDevice.MemoryDevice}

abbrev pub log_of : MemoryDevice → Log
log_of device = told (first_held device.first.now) device.records device.said.items
