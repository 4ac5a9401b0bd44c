pub mod Openings
pub mod FifoTargets
pub mod Bindings
pub mod Moved
pub mod Holding
pub mod SeekAnswers
pub mod Beside
pub mod Leading
pub mod ReadAnswers
pub mod WriteAnswers
pub mod Puts
pub mod Closings
pub mod Closed
pub mod OneClosed
pub mod Written
pub mod Lengths
pub mod WriteLeads
pub mod OpenFiles
pub mod Ranges
pub mod Finding
pub mod Saves
pub mod Makes
pub mod OpenLeads
pub mod HoldMade
pub mod OpenAnswers
pub mod Changing
pub mod Ties
pub mod Tables
pub mod Placed
pub mod Connected
pub mod Made
pub mod Named
pub mod Steps
pub mod BindAnswers
pub mod Listening
pub mod ConnectAnswers
pub mod Freed
pub mod Gone
pub mod GoesOn
pub mod Anew
pub mod UnnamedClosed
pub mod Left
pub mod Shares
pub mod Endings
pub mod NodesEnd
pub mod Unnaming
pub mod Unopened
pub mod Unlocking
mod EndMade
mod FifoFound
mod FifoOpens
mod NodeOpens
mod FifoFaults
