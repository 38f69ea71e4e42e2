-- Why a connection ends, and what its peer is told (own).
use Rattle.std.specs.Prelude.{ℕ, Option, None, Some}
use Rattle.tungstenite.specs.declared.error.Error.{Error}
use Rattle.tungstenite.specs.declared.error.Error.TheVariants as error
use Rattle.websocket.specs.declared.error.ProtocolError.TheVariants.{ResetWithoutClosingHandshake}
use Rattle.wl_wire.specs.declared.ending.Ending.{Ending}
use Rattle.wl_wire.specs.declared.ending.Ending.TheVariants.{Closed, TooLong, Protocol, NotText, Forbidden, Busy, Away}
use Rattle.wl_wire.specs.declared.ending.Ending.TheVariants.{Memory, Broken}

-- what an error of the WebSocket means
abbrev pub ending_for : Error → Ending
ending_for (error.Capacity cause) = TooLong
ending_for (error.Protocol ResetWithoutClosingHandshake) = Broken
ending_for (error.Protocol cause) = Protocol
ending_for error.Utf8 = NotText
ending_for error.OutOfMemory = Memory
ending_for error.ConnectionClosed = Closed
ending_for other = Broken

-- the number of the close frame for an ending (RFC 6455, section 7.4.1; 1013 is in the registry that it set up)
abbrev pub close_number : Ending → Option ℕ
close_number Closed = None
close_number TooLong = Some 1009
close_number Protocol = Some 1002
close_number NotText = Some 1007
close_number (Forbidden reason) = Some 1008
close_number (Busy reason) = Some 1013
close_number Away = Some 1001
close_number Memory = Some 1011
close_number Broken = None
