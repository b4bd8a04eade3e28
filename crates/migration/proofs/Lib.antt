mod Plans
mod Alike
mod Standing
mod Made
mod Numbered
mod Headers
mod Ending
mod Refusing
