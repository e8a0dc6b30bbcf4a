-- A connection that was broken off, and words that were refused.
use Rattle.std.proofs.Common.{◌≡◌, ℕ, List, Err, sym, subst, inl, inr}
use Rattle.gs_session.specs.Connections.{Quit}
use Rattle.gs_session.specs.declared.serving.ServeFault.{ServeFault}
use Rattle.gs_session.specs.declared.serving.ServeFault.TheVariants as fault
use Rattle.gs_arguments.specs.declared.stops.Stop.{Stop}
use Rattle.gs_arguments.specs.declared.stops.Stop.TheVariants.{BadArguments, NoMemory}
use Rattle.gs_arguments.specs.Asked.{AskedTask, IsRefusedFor, help, connection, listening, nothing}
use Rattle.gs_once.specs.Stops.{stop_of}
use Rattle.gs_once.specs.Runs.{Traffic, IsUntouched, ServesConnection, Performs}

-- for whatever reason it was, the run did so much of what was asked
pub broken_off : (base : List ℕ) (piece : ℕ) (t : Traffic) (f : ServeFault) (stop : Stop) → stop ≡ stop_of f → ServesConnection base piece t Quit
    → Performs (connection base piece) t (Err stop)
broken_off base piece t fault.Read stop is served = subst (λ (s : Stop). Performs (connection base piece) t (Err s)) (sym is) served
broken_off base piece t fault.Write stop is served = subst (λ (s : Stop). Performs (connection base piece) t (Err s)) (sym is) served
broken_off base piece t fault.NoMemory stop is served = subst (λ (s : Stop). Performs (connection base piece) t (Err s)) (sym is) (inr served)

-- a run that touches nothing may want memory, whatever was asked
wants_memory : (asked : AskedTask) (t : Traffic) → IsUntouched t → Performs asked t (Err NoMemory)
wants_memory help t still = still
wants_memory (connection base piece) t still = inl still
wants_memory (listening address base workers piece) t still = still
wants_memory nothing t still = still

-- a run whose words were refused touches nothing, and does so much of what they ask
pub refused : (asked : AskedTask) (t : Traffic) (stop : Stop) → IsRefusedFor asked stop → IsUntouched t → Performs asked t (Err stop)
refused asked t BadArguments for still = subst (λ (a : AskedTask). Performs a t (Err BadArguments)) (sym for) still
refused asked t NoMemory for still = wants_memory asked t still
refused asked t stop for still = absurd for
