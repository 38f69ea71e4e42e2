-- What only the code of this crate says (own), beside `Opening`.
use Rattle.wl_types.specs.declared.refusal.Refusal.{Refusal}
use Rattle.wl_types.specs.declared.refusal.Refusal.TheVariants as refusal
use Rattle.wl_service.specs.declared.fault.OpenFault.{OpenFault}
use Rattle.wl_service.specs.declared.fault.OpenFault.TheVariants.{TooManyAgents, NumbersSpent, Memory}

-- a manager's refusal of an agent, by the service's name; it has no third one but memory
abbrev pub fault_of : Refusal → OpenFault
fault_of refusal.TooManyAgents = TooManyAgents
fault_of refusal.NumbersSpent = NumbersSpent
fault_of refusal.Memory = Memory
fault_of refusal.InvalidState = Memory
fault_of refusal.Security = Memory
fault_of refusal.ReservedName = Memory
fault_of refusal.StealIfAvailable = Memory
fault_of refusal.StealShared = Memory
fault_of refusal.SignalCombined = Memory
fault_of (refusal.SignalAborted reason) = Memory
fault_of refusal.NameTooLong = Memory
fault_of refusal.NoSuchSignal = Memory
fault_of refusal.TooManyRequests = Memory
fault_of refusal.TooManySignals = Memory
fault_of refusal.NoSuchAgent = Memory
fault_of refusal.NotAWindow = Memory
