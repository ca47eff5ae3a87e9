-- Requests for memory that were refused, and devices that failed.
use Rattle.aout_core.specs.{declared.refused.Refused.Refused, declared.wire.DeviceFault.DeviceFault}

-- that a request was refused; nothing else is known of it
pub refused : Refused
refused = record { error = record {} }

-- that a device failed; nothing else is known of it
pub device_fault : DeviceFault
device_fault = record { 0 = tt }
