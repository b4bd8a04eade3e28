pub mod SmallWorlds
