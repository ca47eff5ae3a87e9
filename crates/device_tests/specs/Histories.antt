-- What a file system over memory was asked, as the events of a history.
use Rattle.std.specs.Prelude.{List, map, Some, option_map, string_bytes}
use Rattle.host.specs.{Events.{Event, History, closed, looked, opened, stored, written}, declared.nodes.Found.TheVariants.NoFile}
use Rattle.device_tests.specs.declared.fixtures.asked.Asked.{Asked}
use Rattle.device_tests.specs.declared.fixtures.asked.Asked.TheVariants.{Closed, Looked, Opened, Stored, Written}

abbrev pub event_of : Asked → Event
event_of (Opened path found) = opened (string_bytes path) (option_map (λ bytes. Some bytes.now) found)
event_of (Closed failed) = closed failed
event_of (Stored path file what) = stored (string_bytes path) file what
event_of (Written path text what) = written (string_bytes path) text.items what
event_of (Looked path) = looked (string_bytes path) NoFile

abbrev pub history_of : List Asked → History
history_of asked = Some (map event_of asked)
