mod Onward
mod Turn
mod Text
