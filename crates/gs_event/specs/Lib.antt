-- Read in this order: solutions of patterns, what updates make of a graph, datasets, names that are made up, the
-- abstract store, phases, views, births, waste, what an action makes of both, one step, runs, histories, and how
-- these go on. The verdicts stand by themselves, on the abstract store, and so do the nodes in use, on one step.
pub mod Solutions
pub mod Updates
pub mod Datasets
pub mod Names
pub mod Operations
pub mod Conditions
pub mod Phases
pub mod Views
pub mod Births
pub mod Waste
pub mod Born
pub mod Wasting
pub mod Steps
pub mod NodesInUse
pub mod Runs
pub mod Histories
pub mod Continuing
pub mod Codes
pub mod Verdicts
